-- Texts in dot-bracket form: when a text is in it, and that a text written in it is read alike.
use mathlib.Core.Path.{◌≡◌, refl, sym, ap, ap₂, subst, ◌∙◌}
use mathlib.Core.Bool.{Bool, true, false, cond, ◌&&◌, ◌||◌, and_assoc, and-true, true≢false}
use mathlib.Core.Logic.{◌⊎◌, inl, inr}
use Prim.Native.Nat.{ℕ, zero, suc, ◌+◌, ◌-◌, ◌≤◌, ◌<◌}
use native.Mathlib.Omega.{arith}
use native.Mathlib.Numerals.{add-one}
use mathlib.Core.List.{List, [], ◌∷◌, ◌++◌}
use lib.ListN.{length, get_or, drop, replicate, length-append, drop_of_length-le}
use lib.Seq.{drop-cons}
use lib.Dec.{eqb, ltb}
use borrow.Author.Tests.{eqb-true}
use Rattle.answer.specs.declared.Ground.TheVariants.{UnknownByte}
use Rattle.std.specs.Prelude.{Ok}
use Rattle.answer.proofs.Tells.{both_true}
use Rattle.character.specs.Character.{meaning_of, role_of, kind_of}
use Rattle.character.proofs.Bytes.{by_byte}
use Rattle.character.specs.declared.Role.{Role}
use Rattle.character.specs.declared.Role.TheVariants.{Unpaired, Opening, Closing, Refused}
use Rattle.tree.specs.Run.{Run, spell, size, lefts_from}
use Rattle.tree.specs.Run.Run.{end, dot, pair}
use Rattle.tree.specs.NodeKind.{item_kinds}
use Rattle.tree.specs.Reading.{form_byte, dot_bracket_of, Runs, first, onto, runs, or_next, first_refused, ground_at, stopped, blind_reading, pass_kind, first_other_kind, Reading, read_of, tree_of}
use Rattle.tree.specs.Reading.Runs.{last, more}
use Rattle.tree.specs.Reading.Reading.{text_accepted, text_refused}
use Rattle.tree.specs.inner.DotBracket.{SameRole, SameRoles, is_dot_bracket, in_dot_bracket, is_among}
use Rattle.tree.specs.declared.Tree.{Tree}
use Rattle.tree.proofs.NodeKinds.{kinds_in, item_kinds_in}

-- The look whether every byte is a dot or a round bracket: what it has found up to i, and what the rest has.
pub record DotsTo (s : List ℕ) (i : ℕ) (all : Bool) : Type 0 where
  pub is : in_dot_bracket s ≡ (all && in_dot_bracket (drop i s))

pub dots_start : (s : List ℕ) → DotsTo s 0 true
dots_start s = record { is = refl }

pub dots_turn : (s : List ℕ) (i : ℕ) {all k r : Bool} → i < length s → DotsTo s i all → k ≡ is_dot_bracket (get_or s i 0) → r ≡ (all && k) → DotsTo s (i + 1) r
dots_turn s i {all} {k} lt h f g =
    record {
      is = h.is
          ∙ ap (λ (x : List ℕ). all && in_dot_bracket x) (drop-cons s i 0 lt)
          ∙ ap₂ (λ (b : Bool) (j : ℕ). all && (b && in_dot_bracket (drop j s))) (sym f) (sym (add-one i))
          ∙ sym (and_assoc all k (in_dot_bracket (drop (i + 1) s)))
          ∙ ap (λ (b : Bool). b && in_dot_bracket (drop (i + 1) s)) (sym g);
    }

pub dots_end : (s : List ℕ) (i : ℕ) {all : Bool} → length s ≤ i → DotsTo s i all → all ≡ in_dot_bracket s
dots_end s i {all} l h = sym (h.is ∙ ap (λ (x : List ℕ). all && in_dot_bracket x) (drop_of_length-le s l) ∙ and-true all)

or_true : (a b : Bool) → (a || b) ≡ true → (a ≡ true) ⊎ (b ≡ true)
or_true true b e = inl refl
or_true false b e = inr e

-- The kinds of n round brackets that are open.
abbrev rounds : ℕ → List ℕ
rounds zero = []
rounds (suc n) = 2 ∷ rounds n

-- What is known of a dot and of a round bracket: it is read alike in dot-bracket form, it is not refused, and its partner is round.
record DotOrRound (b : ℕ) : Type 0 where
  form : SameRole b
  next : (n : ℕ) → or_next (role_of b) n ≡ suc n
  pass : (n : ℕ) (rest : List ℕ → ℕ) → (m : ℕ) × (pass_kind (role_of b) (kind_of b) (rounds n) rest ≡ suc (rest (rounds m)))

of_dot : DotOrRound 46
unfolding meaning_of
of_dot = record { form = refl; next = λ n. refl; pass = λ n rest. (n, refl) }

of_opening : DotOrRound 40
unfolding meaning_of
of_opening = record { form = refl; next = λ n. refl; pass = λ n rest. (suc n, refl) }

of_closing : DotOrRound 41
unfolding meaning_of
of_closing = record { form = refl; next = λ n. refl; pass = closed }
  where
    closed : (n : ℕ) (rest : List ℕ → ℕ) → (m : ℕ) × (pass_kind (role_of 41) (kind_of 41) (rounds n) rest ≡ suc (rest (rounds m)))
    closed zero rest = (0, refl)
    closed (suc n) rest = (n, refl)

dot_or_round : (b : ℕ) → is_dot_bracket b ≡ true → DotOrRound b
dot_or_round b h = elim (or_true (eqb b 46) (eqb b 40 || eqb b 41) h) [
  | inl e ↦ subst DotOrRound (sym (eqb-true b 46 e)) of_dot
  | inr w ↦ elim (or_true (eqb b 40) (eqb b 41) w) [ inl e ↦ subst DotOrRound (sym (eqb-true b 40 e)) of_opening | inr e ↦ subst DotOrRound (sym (eqb-true b 41 e)) of_closing ]
]

-- A text of dots and round brackets is in dot-bracket form, has no refused byte, and no partners of two kinds.
nothing_refused : SameRole 0
unfolding meaning_of
nothing_refused = refl

pub dots_form : (s : List ℕ) → in_dot_bracket s ≡ true → SameRoles s
dots_form [] h i = nothing_refused
dots_form (c ∷ s) h zero = (dot_or_round c (both_true (is_dot_bracket c) (in_dot_bracket s) h).0).form
dots_form (c ∷ s) h (suc i) = dots_form s (both_true (is_dot_bracket c) (in_dot_bracket s) h).1 i

pub dots_known : (s : List ℕ) → in_dot_bracket s ≡ true → length s ≡ first_refused s
dots_known [] h = refl
dots_known (c ∷ s) h =
    let w = both_true (is_dot_bracket c) (in_dot_bracket s) h in
    ap suc (dots_known s w.1) ∙ sym ((dot_or_round c w.0).next (first_refused s))

dots_pass : (s : List ℕ) → in_dot_bracket s ≡ true → (n : ℕ) → first_other_kind s (rounds n) ≡ length s
dots_pass [] h n = refl
dots_pass (c ∷ s) h n =
    let w = both_true (is_dot_bracket c) (in_dot_bracket s) h in
    let v = (dot_or_round c w.0).pass n (first_other_kind s) in
    v.1 ∙ ap suc (dots_pass s w.1 v.0)

pub dots_kinds : (s : List ℕ) → in_dot_bracket s ≡ true → first_other_kind s [] ≡ length s
dots_kinds s h = dots_pass s h 0

-- A byte plays its role in dot-bracket form too.
role_kept : (m : Role) → role_of (form_byte m) ≡ m
unfolding meaning_of
role_kept Unpaired = refl
role_kept Opening = refl
role_kept Closing = refl
role_kept Refused = refl

read_as_dot : (m : Role) → SameRole (form_byte m)
unfolding meaning_of
read_as_dot Unpaired = refl
read_as_dot Opening = refl
read_as_dot Closing = refl
read_as_dot Refused = refl

-- The comparisons by which a text is written, and a bracket's kind told, tell what the byte means.
pub compared_role : (b : ℕ) → cond (is_among b 46 44 58 95 || (eqb b 45 || eqb b 126)) 46 (cond (is_among b 60 40 91 123) 40 (cond (is_among b 62 41 93 125) 41 0)) ≡ form_byte (role_of b)
unfolding meaning_of
compared_role b =
    by_byte (λ (x : ℕ). cond (is_among x 46 44 58 95 || (eqb x 45 || eqb x 126)) 46 (cond (is_among x 60 40 91 123) 40 (cond (is_among x 62 41 93 125) 41 0)) ≡ form_byte (role_of x)) b
    refl refl refl refl refl refl refl refl refl refl refl refl refl refl
    (λ w. simp (w.0, w.1.0, w.1.1.0, w.1.1.1.0, w.1.1.1.1.0, w.1.1.1.1.1.0, w.1.1.1.1.1.1.0, w.1.1.1.1.1.1.1.0, w.1.1.1.1.1.1.1.1.0, w.1.1.1.1.1.1.1.1.1.0, w.1.1.1.1.1.1.1.1.1.1.0, w.1.1.1.1.1.1.1.1.1.1.1.0, w.1.1.1.1.1.1.1.1.1.1.1.1.0, w.1.1.1.1.1.1.1.1.1.1.1.1.1.0, meaning_of))

pub compared_kind : (b : ℕ) → cond (eqb b 60 || eqb b 62) 1 (cond (eqb b 40 || eqb b 41) 2 (cond (eqb b 91 || eqb b 93) 3 (cond (eqb b 123 || eqb b 125) 4 0))) ≡ kind_of b
unfolding meaning_of
compared_kind b =
    by_byte (λ (x : ℕ). cond (eqb x 60 || eqb x 62) 1 (cond (eqb x 40 || eqb x 41) 2 (cond (eqb x 91 || eqb x 93) 3 (cond (eqb x 123 || eqb x 125) 4 0))) ≡ kind_of x) b
    refl refl refl refl refl refl refl refl refl refl refl refl refl refl
    (λ w. simp (w.0, w.1.0, w.1.1.0, w.1.1.1.0, w.1.1.1.1.0, w.1.1.1.1.1.0, w.1.1.1.1.1.1.0, w.1.1.1.1.1.1.1.0, w.1.1.1.1.1.1.1.1.0, w.1.1.1.1.1.1.1.1.1.0, w.1.1.1.1.1.1.1.1.1.1.0, w.1.1.1.1.1.1.1.1.1.1.1.0, w.1.1.1.1.1.1.1.1.1.1.1.1.0, w.1.1.1.1.1.1.1.1.1.1.1.1.1.0, meaning_of))

pub form_in : (s : List ℕ) → SameRoles (dot_bracket_of s)
form_in [] i = nothing_refused
form_in (c ∷ s) zero = read_as_dot (role_of c)
form_in (c ∷ s) (suc i) = form_in s i

pub form_length : (s : List ℕ) → length (dot_bracket_of s) ≡ length s
form_length [] = refl
form_length (c ∷ s) = ap suc (form_length s)

pub form_refused : (s : List ℕ) → first_refused (dot_bracket_of s) ≡ first_refused s
form_refused [] = refl
form_refused (c ∷ s) = ap₂ or_next (role_kept (role_of c)) (form_refused s)

pub form_keeps_role : (s : List ℕ) (i : ℕ) → role_of (get_or (dot_bracket_of s) i 0) ≡ role_of (get_or s i 0)
form_keeps_role [] i = refl
form_keeps_role (c ∷ s) zero = role_kept (role_of c)
form_keeps_role (c ∷ s) (suc i) = form_keeps_role s i

-- A text whose form is not dots and round brackets alone has a refused byte.
pub form_other : (s : List ℕ) → in_dot_bracket (dot_bracket_of s) ≡ false → first_refused s < length s
form_other [] h = absurd (true≢false h)
form_other (c ∷ s) h = go (role_of c) h (form_other s)
  where
    go : (m : Role) → (is_dot_bracket (form_byte m) && in_dot_bracket (dot_bracket_of s)) ≡ false → (in_dot_bracket (dot_bracket_of s) ≡ false → first_refused s < length s) → or_next m (first_refused s) < suc (length s)
    go Unpaired e rest = omega (arith, rest e)
    go Opening e rest = omega (arith, rest e)
    go Closing e rest = omega (arith, rest e)
    go Refused e rest = omega arith

-- The runs of a text in dot-bracket form are its own with other bytes: as many nodes and bytes, the same leftmost leaves and the same kinds of nodes.
abbrev in_dots : Run → Run
in_dots end = end
in_dots (dot c r) = dot (form_byte (role_of c)) (in_dots r)
in_dots (pair o i c r) = pair (form_byte (role_of o)) (in_dots i) (form_byte (role_of c)) (in_dots r)

abbrev all_in_dots : Runs → Runs
all_in_dots (last r) = last (in_dots r)
all_in_dots (more r c rs) = more (in_dots r) (form_byte (role_of c)) (all_in_dots rs)

form_onto : (m : Role) (c : ℕ) (x : Runs) → onto m (form_byte (role_of c)) (all_in_dots x) ≡ all_in_dots (onto m c x)
form_onto Unpaired c (last r) = refl
form_onto Unpaired c (more r d rs) = refl
form_onto Opening c (last r) = refl
form_onto Opening c (more r d (last q)) = refl
form_onto Opening c (more r d (more q e rs)) = refl
form_onto Closing c x = refl
form_onto Refused c x = refl

form_runs : (s : List ℕ) → runs (dot_bracket_of s) ≡ all_in_dots (runs s)
form_runs [] = refl
form_runs (c ∷ s) = ap₂ (λ (m : Role) (x : Runs). onto m (form_byte (role_of c)) x) (role_kept (role_of c)) (form_runs s) ∙ form_onto (role_of c) c (runs s)

first_in_dots : (x : Runs) → first (all_in_dots x) ≡ in_dots (first x)
first_in_dots (last r) = refl
first_in_dots (more r c rs) = refl

form_first : (s : List ℕ) → first (runs (dot_bracket_of s)) ≡ in_dots (first (runs s))
form_first s = ap first (form_runs s) ∙ first_in_dots (runs s)

bytes_kept : (r : Run) → length (spell (in_dots r)) ≡ length (spell r)
bytes_kept end = refl
bytes_kept (dot c r) = ap suc (bytes_kept r)
bytes_kept (pair o i c r) = omega (arith, bytes_kept i, bytes_kept r, length-append (spell (in_dots i)) (form_byte (role_of c) ∷ spell (in_dots r)), length-append (spell i) (c ∷ spell r))

nodes_kept : (r : Run) → size (in_dots r) ≡ size r
nodes_kept end = refl
nodes_kept (dot c r) = ap suc (nodes_kept r)
nodes_kept (pair o i c r) = ap₂ (λ (a b : ℕ). a + suc b) (nodes_kept i) (nodes_kept r)

leaves_kept : (b : ℕ) (r : Run) → lefts_from b (in_dots r) ≡ lefts_from b r
leaves_kept b end = refl
leaves_kept b (dot c r) = ap (λ (l : List ℕ). b ∷ l) (leaves_kept (suc b) r)
leaves_kept b (pair o i c r) = ap₂ (λ (x y : List ℕ). x ++ b ∷ y) (leaves_kept b i) (ap (λ (n : ℕ). lefts_from (b + suc n) (in_dots r)) (nodes_kept i) ∙ leaves_kept (b + suc (size i)) r)

kinds_in_kept : (r : Run) → kinds_in (in_dots r) ≡ kinds_in r
kinds_in_kept end = refl
kinds_in_kept (dot c r) = ap (λ (l : List ℕ). 0 ∷ l) (kinds_in_kept r)
kinds_in_kept (pair o i c r) = ap₂ (λ (x y : List ℕ). x ++ 1 ∷ y) (kinds_in_kept i) (kinds_in_kept r)

kinds_kept : (r : Run) → item_kinds (in_dots r) ≡ item_kinds r
kinds_kept r = item_kinds_in (in_dots r) ∙ kinds_in_kept r ∙ sym (item_kinds_in r)

tree_kept : (r : Run) → tree_of (in_dots r) ≡ tree_of r
tree_kept r =
    let n = nodes_kept r in
    let l = leaves_kept 0 r in
    let k = kinds_kept r in
    λ j. record { n = n j + 1; left = (l j ++ 0 ∷ []) ++ replicate (255 - n j) 0; kinds = k j ++ replicate (256 - n j) 0 }

-- A text in dot-bracket form is read as it is itself, blind to kinds.
form_stopped : (s : List ℕ) → read_of (stopped (dot_bracket_of s) (first (runs (dot_bracket_of s)))) ≡ read_of (stopped s (first (runs s)))
form_stopped s =
    let r : Run = first (runs s) in
    ap (λ (q : Run). read_of (stopped (dot_bracket_of s) q)) (form_first s)
    ∙ ap₂ (λ (k n : ℕ). read_of (by (in_dots r) (dot_bracket_of s) (eqb k n) k)) (bytes_kept r) (form_length s)
    ∙ go (eqb (length (spell r)) (length s)) (length (spell r))
  where
    by : Run → List ℕ → Bool → ℕ → Reading
    by q x b k = cond b (text_accepted q) (text_refused (ground_at (role_of (get_or x k 0))) k)

    go : (b : Bool) (k : ℕ) → read_of (by (in_dots (first (runs s))) (dot_bracket_of s) b k) ≡ read_of (by (first (runs s)) s b k)
    go true k = ap (λ (t : Tree). Ok t) (tree_kept (first (runs s)))
    go false k = ap (λ (m : Role). read_of (text_refused (ground_at m) k)) (form_keeps_role s k)

pub form_blind : (s : List ℕ) → read_of (blind_reading (dot_bracket_of s)) ≡ read_of (blind_reading s)
form_blind s = ap₂ (λ (k n : ℕ). read_of (cond (ltb k n) (text_refused UnknownByte k) (stopped (dot_bracket_of s) (first (runs (dot_bracket_of s)))))) (form_refused s) (form_length s) ∙ go (ltb (first_refused s) (length s))
  where
    go : (b : Bool) → read_of (cond b (text_refused UnknownByte (first_refused s)) (stopped (dot_bracket_of s) (first (runs (dot_bracket_of s))))) ≡ read_of (cond b (text_refused UnknownByte (first_refused s)) (stopped s (first (runs s))))
    go true = refl
    go false = form_stopped s
