-- The kinds of a text's nodes, told byte by byte, are those of its run's nodes.
use mathlib.Core.Path.{◌≡◌, refl, sym, ap, ap₂, ◌∙◌}
use mathlib.Core.Bool.{Bool, true, false, cond}
use Prim.Native.Nat.{ℕ, suc, ◌+◌, ◌-◌, ◌≤◌, ◌<◌}
use native.Mathlib.Omega.{arith}
use native.Mathlib.Numerals.{add-one}
use mathlib.Core.List.{List, [], ◌∷◌, ◌++◌, map, append_assoc, append-nil, map-map, map-append}
use lib.ListN.{length, get_or, take, set, replicate, length-append}
use lib.Seq.{take_all, take-suc, set_at}
use lib.Dec.{eqb}
use borrow.Author.Tests.{ne_eqb}
use Rattle.character.specs.Character.{meaning_of, role_of}
use Rattle.character.specs.declared.Role.{Role}
use Rattle.character.specs.declared.Role.TheVariants.{Unpaired, Opening, Closing, Refused}
use Rattle.tree.specs.Run.{Run, spell, size}
use Rattle.tree.specs.Run.Run.{end, dot, pair}
use Rattle.tree.specs.Node.{Item, items}
use Rattle.tree.specs.Node.Item.{inside, past_dot, past_pair}
use Rattle.tree.specs.NodeKind.{item_kind, kind_number, item_kinds}
use Rattle.tree.specs.Reading.{Meant, tree_of}
use Rattle.tree.specs.inner.DotBracket.{SameRole}
use Rattle.tree.specs.inner.NodeKinds.{told_by, ended_by, onto_kinds, told_kinds, with_zeros, kinds_read}
use Rattle.tree.proofs.Nodes.{length_mapped}

-- The comparisons by which a byte tells a kind and ends a node tell it by the byte's role.
told_other : (a b : Bool) → 0 ≡ told_by (cond a Unpaired (cond b Opening Refused))
told_other true b = refl
told_other false true = refl
told_other false false = refl

told_closing : 1 ≡ told_by (role_of 41)
unfolding meaning_of
told_closing = refl

pub tells_pair : (b : ℕ) → b ≡ 41 → 1 ≡ told_by (role_of b)
tells_pair b e = told_closing ∙ ap (λ (y : ℕ). told_by (role_of y)) (sym e)

pub tells_none : (b : ℕ) → SameRole b → (b ≡ 41 → ⊥) → 0 ≡ told_by (role_of b)
tells_none b form ne =
    told_other (eqb b 46) (eqb b 40)
    ∙ ap (λ (x : Bool). told_by (cond (eqb b 46) Unpaired (cond (eqb b 40) Opening (cond x Closing Refused)))) (sym (ne_eqb b 41 ne))
    ∙ ap told_by form

ended_opening : 0 ≡ ended_by (role_of 40)
unfolding meaning_of
ended_opening = refl

ended_other : (a b : Bool) → 1 ≡ ended_by (cond a Unpaired (cond b Closing Refused))
ended_other true b = refl
ended_other false true = refl
ended_other false false = refl

pub ends_none : (b : ℕ) → b ≡ 40 → 0 ≡ ended_by (role_of b)
ends_none b e = ended_opening ∙ ap (λ (y : ℕ). ended_by (role_of y)) (sym e)

pub ends_one : (b : ℕ) → SameRole b → (b ≡ 40 → ⊥) → 1 ≡ ended_by (role_of b)
ends_one b form ne =
    ended_other (eqb b 46) (eqb b 41)
    ∙ ap (λ (x : Bool). ended_by (cond (eqb b 46) Unpaired (cond x Opening (cond (eqb b 41) Closing Refused)))) (sym (ne_eqb b 40 ne))
    ∙ ap ended_by form

-- The kinds told up to byte i are written, with zeros behind them.
pub record ToldTo (s : List ℕ) (i node : ℕ) (kinds : List ℕ) : Type 0 where
  pub inside : i ≤ length s
  pub few : node ≤ i
  pub nodes : node ≡ length (told_kinds (take i s))
  pub is : kinds ≡ with_zeros (told_kinds (take i s))

pub told_start : (s : List ℕ) → ToldTo s 0 0 (replicate 256 0)
told_start s = record { inside = omega arith; few = omega arith; nodes = refl; is = refl }

told_append : (s t : List ℕ) → told_kinds (s ++ t) ≡ told_kinds s ++ told_kinds t
told_append [] t = refl
told_append (c ∷ s) t = ap (onto_kinds (role_of c)) (told_append s t) ∙ go (role_of c) (told_kinds s)
  where
    go : (m : Role) (ks : List ℕ) → onto_kinds m (ks ++ told_kinds t) ≡ onto_kinds m ks ++ told_kinds t
    go Unpaired ks = refl
    go Opening ks = refl
    go Closing ks = refl
    go Refused ks = refl

told_next : (s : List ℕ) (i : ℕ) → i < length s → told_kinds (take (i + 1) s) ≡ told_kinds (take i s) ++ onto_kinds (role_of (get_or s i 0)) []
told_next s i lt = ap (λ (k : ℕ). told_kinds (take k s)) (add-one i) ∙ ap told_kinds (take-suc s i 0 lt) ∙ told_append (take i s) (get_or s i 0 ∷ [])

-- A kind written behind those that are there.
one_zero : (ks : List ℕ) → length ks ≤ 255 → with_zeros ks ≡ ks ++ 0 ∷ replicate (255 - length ks) 0
one_zero ks few = let e : 256 - length ks ≡ suc (255 - length ks) = omega arith in ap (λ (n : ℕ). ks ++ replicate n 0) e

one_more : (ks : List ℕ) (v : ℕ) → length ks ≤ 255 → with_zeros (ks ++ v ∷ []) ≡ ks ++ v ∷ replicate (255 - length ks) 0
one_more ks v few =
    let e : 256 - length (ks ++ v ∷ []) ≡ 255 - length ks = omega (arith, length-append ks (v ∷ [])) in
    append_assoc ks (v ∷ []) (replicate (256 - length (ks ++ v ∷ [])) 0) ∙ ap (λ (n : ℕ). ks ++ v ∷ replicate n 0) e

put_kind : (ks kinds : List ℕ) (node v : ℕ) → length ks ≤ 255 → node ≡ length ks → kinds ≡ with_zeros ks → set kinds node v ≡ ks ++ v ∷ replicate (255 - length ks) 0
put_kind ks kinds node v few at is =
    ap (λ (l : List ℕ). set l node v) (is ∙ one_zero ks few) ∙ set_at ks 0 (replicate (255 - length ks) 0) v node (sym at)

-- So much is told and counted with a byte more.
by_role : (m : Role) (ks : List ℕ) → length ks ≤ 255 → ks ++ told_by m ∷ replicate (255 - length ks) 0 ≡ with_zeros (ks ++ onto_kinds m [])
by_role Unpaired ks few = sym (one_more ks 0 few)
by_role Opening ks few = sym (one_zero ks few) ∙ ap with_zeros (sym (append-nil ks))
by_role Closing ks few = sym (one_more ks 1 few)
by_role Refused ks few = sym (one_more ks 0 few)

count_role : (m : Role) → ended_by m ≡ length (onto_kinds m [])
count_role Unpaired = refl
count_role Opening = refl
count_role Closing = refl
count_role Refused = refl

ends_few : (m : Role) → ended_by m ≤ 1
ends_few Unpaired = omega arith
ends_few Opening = omega arith
ends_few Closing = omega arith
ends_few Refused = omega arith

pub ended_few : {n : ℕ} (b : ℕ) → n ≡ ended_by (role_of b) → n ≤ 1
ended_few b e = omega (arith, ends_few (role_of b))

module _ (s : List ℕ) (short : length s ≤ 255) where
  few_told : {i node : ℕ} {kinds : List ℕ} → ToldTo s i node kinds → length (told_kinds (take i s)) ≤ 255
  few_told h = omega (arith, h.nodes, h.few, h.inside)

  pub told-turn :
      (i node : ℕ) {kinds : List ℕ} {v n : ℕ} → ToldTo s i node kinds → i < length s
      → v ≡ told_by (role_of (get_or s i 0)) → n ≡ ended_by (role_of (get_or s i 0)) → ToldTo s (i + 1) (node + n) (set kinds node v)
  told-turn i node {kinds} {v} {n} h lt told ends =
      let m : Role = role_of (get_or s i 0) in
      let ks : List ℕ = told_kinds (take i s) in
      record {
        inside = omega arith;
        few = omega (arith, h.few, ends, ends_few m);
        nodes = omega (arith, h.nodes, ends, count_role m, length-append ks (onto_kinds m []), ap length (told_next s i lt));
        is = put_kind ks kinds node v (few_told h) h.nodes h.is
            ∙ ap (λ (x : ℕ). ks ++ x ∷ replicate (255 - length ks) 0) told
            ∙ by_role m ks (few_told h)
            ∙ ap with_zeros (sym (told_next s i lt));
      }

pub told_end : {s : List ℕ} {i node : ℕ} {kinds : List ℕ} → ToldTo s i node kinds → length s ≤ i → kinds ≡ kinds_read s
unfolding kinds_read
told_end {s} {i} h le = h.is ∙ ap (λ (l : List ℕ). with_zeros (told_kinds l)) (take_all i s le)

-- The kinds of a run's items, run by run.
abbrev pub kinds_in : Run → List ℕ
kinds_in end = []
kinds_in (dot c r) = 0 ∷ kinds_in r
kinds_in (pair o i c r) = kinds_in i ++ 1 ∷ kinds_in r

abbrev kind_of_item : {r : Run} → Item r → ℕ
kind_of_item x = kind_number (item_kind x)

pub item_kinds_in : (r : Run) → item_kinds r ≡ kinds_in r
item_kinds_in end = refl
item_kinds_in (dot c r) = ap (λ (l : List ℕ). 0 ∷ l) (map-map kind_of_item past_dot (items r) ∙ item_kinds_in r)
item_kinds_in (pair o i c r) =
    map-append kind_of_item (map inside (items i)) _
    ∙ ap₂ (λ (a b : List ℕ). a ++ 1 ∷ b) (map-map kind_of_item inside (items i) ∙ item_kinds_in i) (map-map kind_of_item past_pair (items r) ∙ item_kinds_in r)

-- A text that spells a run tells the kinds of its items.
told_spell : (r : Run) → Meant r → told_kinds (spell r) ≡ kinds_in r
told_spell end m = refl
told_spell (dot c r) m = ap₂ onto_kinds m.0 (told_spell r m.1)
told_spell (pair o i c r) m =
    ap₂ onto_kinds m.0 (told_append (spell i) (c ∷ spell r))
    ∙ ap₂ (λ (a b : List ℕ). a ++ b) (told_spell i m.1) (ap₂ onto_kinds m.2 (told_spell r m.3))

pub length_kinds : (r : Run) → length (item_kinds r) ≡ size r
length_kinds r = length_mapped (λ (x : Item r). kind_of_item x)

pub kinds_spelled : (r : Run) → Meant r → kinds_read (spell r) ≡ (tree_of r).kinds
unfolding kinds_read
kinds_spelled r m =
    ap with_zeros (told_spell r m ∙ sym (item_kinds_in r))
    ∙ ap (λ (n : ℕ). item_kinds r ++ replicate (256 - n) 0) (length_kinds r)
