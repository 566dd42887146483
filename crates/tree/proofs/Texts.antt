-- What reading a whole text answers, in each case of the code.
use mathlib.Core.Path.{◌≡◌, refl, sym, ap, ◌∙◌}
use mathlib.Core.Bool.{true, false}
use mathlib.Core.Logic.{◌⊎◌, ⊎_elim}
use Prim.Native.Nat.{ℕ, zero, suc, ◌+◌, ◌-◌, ◌≤◌, ◌<◌}
use native.Mathlib.Omega.{arith}
use native.Mathlib.Nat.{zero-add, sub-zero}
use mathlib.Core.List.{List, [], ◌∷◌, ◌++◌, append_assoc, append-nil}
use lib.ListN.{length, get_or, drop, replicate, length-append, length-replicate, get_or-eq_default}
use lib.Seq.{sets, sets-eq}
use borrow.Author.Tests.{eq-eqb, ne_eqb, lt-ltb, le-ltb}
use Rattle.answer.specs.declared.Ground.{Ground}
use Rattle.answer.specs.declared.Ground.TheVariants.{TextLength, UnknownByte, ClosesNothing, NeverClosed}
use Rattle.std.specs.Prelude.{Result, Ok}
use Rattle.tree.specs.Run.{Run, spell, size, lefts_from, lefts}
use Rattle.character.specs.Character.{meaning_of, role_of}
use Rattle.tree.specs.Reading.{first, runs, first_refused, bad_length, ground_at, stopped, blind_reading, with_kinds, reading, read_of, tree_of, IsTree}
use Rattle.tree.specs.inner.Building.{Ready, OpensAt, RunRead, Known}
use Rattle.tree.specs.inner.NodeKinds.{ShortForm, kinds_read}
use Rattle.tree.specs.Reading.Reading.{text_accepted, text_refused}
use Rattle.character.specs.declared.Role.{Role}
use Rattle.character.specs.declared.Role.TheVariants.{Unpaired, Opening, Closing, Refused}
use Rattle.tree.specs.declared.run.ReadTo.{ReadTo}
use Rattle.tree.specs.declared.Tree.{Tree}
use Rattle.tree.specs.declared.RefusedText.{RefusedText}
use Rattle.answer.proofs.Denied.{clash}
use Rattle.tree.proofs.Roles.{tag}
use Rattle.tree.proofs.Leaves.{length_lefts}
use Rattle.tree.proofs.NodeKinds.{kinds_spelled}
use Rattle.tree.proofs.Splits.{splits, begins, first_fits, size_spell}
use Rattle.tree.proofs.Spelling.{first_meant}

abbrev pub zeros : ℕ → List ℕ
zeros n = replicate n 0

drop_zeros : (k n : ℕ) → drop k (zeros n) ≡ zeros (n - k)
drop_zeros zero n = ap zeros (sym (sub-zero n))
drop_zeros (suc k) zero = let e : 0 ≡ 0 - suc k = omega arith in ap zeros e
drop_zeros (suc k) (suc n) = let e : n - k ≡ suc n - suc k = omega arith in drop_zeros k n ∙ ap zeros e

-- The leftmost leaves written over zeros, and the added root's, which is a zero already.
padded : (m : ℕ) (r : Run) → size r ≤ m → sets (zeros (suc m)) 0 (lefts_from 0 r) ≡ lefts r ++ zeros (m - size r)
padded m r h =
    let vs : List ℕ = lefts_from 0 r in
    let fits : 0 + length vs ≤ length (zeros (suc m)) = omega (arith, length-replicate {A = ℕ} (suc m) 0, length_lefts 0 r) in
    let e : suc m - (0 + length vs) ≡ suc (m - size r) = omega (arith, length_lefts 0 r) in
    sets-eq vs (zeros (suc m)) 0 fits
    ∙ ap (λ (l : List ℕ). vs ++ l)
    (drop_zeros (0 + length vs) (suc m) ∙ ap zeros e)
    ∙ sym (append_assoc vs (0 ∷ []) (zeros (m - size r)))

-- No byte stands at the end of a text.
end_opens : (s : List ℕ) (k : ℕ) → k ≡ length s → OpensAt s k → ⊥
unfolding meaning_of
end_opens s k e o = let z = ap role_of (get_or-eq_default s 0 {n = k} (omega arith)) in clash (cc)

ground_other : (m : Role) → (tag m ≡ 0) ⊎ ((tag m ≡ 1) ⊎ (tag m ≡ 3)) → ground_at m ≡ NeverClosed
ground_other Unpaired h = refl
ground_other Opening h = refl
ground_other Closing h = absurd (⊎_elim (λ x. omega arith) (⊎_elim (λ x. omega arith) (λ x. omega arith)) h)
ground_other Refused h = refl

read_tree :
    (n n' : ℕ) (l l' k k' : List ℕ) → n ≡ n' → l ≡ l' → k ≡ k'
    → ◌≡◌ {A = Tree} (record { n = n + 1; left = l; kinds = k }) (record { n = n' + 1; left = l'; kinds = k' })
read_tree n n' l l' k k' p q e = λ j. record { n = p j + 1; left = q j; kinds = e j }

module _ (s : List ℕ) where
  pub read_length : bad_length (length s) ≡ true → reading s ≡ text_refused TextLength 0
  unfolding reading
  read_length h = rw h

  pub read_fits : bad_length (length s) ≡ false → reading s ≡ with_kinds s (blind_reading s)
  unfolding reading
  read_fits h = rw h

  pub blind_unknown : first_refused s < length s → blind_reading s ≡ text_refused UnknownByte (first_refused s)
  blind_unknown h = rw (lt-ltb (first_refused s) (length s) h)

  pub blind_known : length s ≤ first_refused s → blind_reading s ≡ stopped s (first (runs s))
  blind_known h = rw (le-ltb (first_refused s) (length s) h)

  module _ (known : Known s) where
    pub read_ready : Ready s 0 0 (zeros 256)
    read_ready = record {
      form = known.form;
      short = known.short;
      inside = omega arith;
      fewer = omega arith;
      room = omega (arith, known.short, length-replicate {A = ℕ} 256 0);
    }

    pub read_short_form : ShortForm s
    read_short_form = record { form = known.form; short = known.short }

    module _ (x : ReadTo) (left : List ℕ) (is : RunRead s 0 0 (zeros 256) x left) where
      at_stop : x.at ≡ length (spell (first (runs s)))
      at_stop = is.passed ∙ zero-add (length (spell (first (runs s))))

      pub read_inside : (x.at ≡ length s → ⊥) → x.at < length s
      read_inside ne = omega (arith, first_fits s, at_stop)

      few : size (first (runs s)) ≤ 255
      few = omega (arith, size_spell (first (runs s)), first_fits s, known.short)

      pub read_few : x.n ≤ 255
      read_few = omega (arith, is.counted, few)

      -- A text that is read to its end is that of its run.
      spelled : x.at ≡ length s → s ≡ spell (first (runs s))
      spelled e = let w = begins s (runs s) (splits s) in whole w.0 w.1
        where
          whole : (t : List ℕ) → s ≡ spell (first (runs s)) ++ t → s ≡ spell (first (runs s))
          whole [] f = f ∙ append-nil (spell (first (runs s)))
          whole (c ∷ t) f = absurd (omega (arith, at_stop, ap length f, length-append (spell (first (runs s))) (c ∷ t)))

      -- A text that is read to its end gives the tree of its run.
      pub read_is : x.at ≡ length s → (kinds : List ℕ) → kinds ≡ kinds_read s → ◌≡◌ {A = Tree} (record { n = x.n + 1; left = left; kinds = kinds }) (tree_of (first (runs s)))
      read_is e kinds told =
          let r : Run = first (runs s) in
          read_tree x.n (size r) left (lefts r ++ zeros (255 - size r)) kinds (tree_of r).kinds (is.counted ∙ zero-add (size r)) (is.written (end_opens s x.at e) ∙ padded 255 r few) (told ∙ ap kinds_read (spelled e) ∙ kinds_spelled r (first_meant s))

      pub read_whole : x.at ≡ length s → (kinds : List ℕ) → kinds ≡ kinds_read s → IsTree (record { n = x.n + 1; left = left; kinds = kinds })
      read_whole e kinds told = record { run = first (runs s); few = few; is = read_is e kinds told }

      pub read_all : x.at ≡ length s → (kinds : List ℕ) → kinds ≡ kinds_read s → ◌≡◌ {A = Result Tree RefusedText} (Ok (record { n = x.n + 1; left = left; kinds = kinds })) (read_of (blind_reading s))
      read_all e kinds told =
          let r : Run = first (runs s) in
          let st : stopped s r ≡ text_accepted r = rw (eq-eqb (length (spell r)) (length s) (sym at_stop ∙ e)) in
          ap (λ (t : Tree). Ok t) (read_is e kinds told) ∙ sym (ap read_of (blind_known known.known ∙ st))

      module _ (ne : x.at ≡ length s → ⊥) (m : Role) (means : m ≡ role_of (get_or s x.at 0)) where
        at_other : blind_reading s ≡ text_refused (ground_at m) x.at
        at_other =
            let r : Run = first (runs s) in
            let st : stopped s r ≡ text_refused (ground_at (role_of (get_or s (length (spell r)) 0))) (length (spell r)) = rw (ne_eqb (length (spell r)) (length s) (λ h. ne (at_stop ∙ h))) in
            blind_known known.known ∙ st
            ∙ ap (λ (k : ℕ). text_refused (ground_at (role_of (get_or s k 0))) k) (sym at_stop)
            ∙ ap (λ (k : Role). text_refused (ground_at k) x.at) (sym means)

        pub read_closing : m ≡ Closing → blind_reading s ≡ text_refused ClosesNothing x.at
        read_closing f = at_other ∙ ap (λ (k : Role). text_refused (ground_at k) x.at) f

        pub read_opening : (tag m ≡ 0) ⊎ ((tag m ≡ 1) ⊎ (tag m ≡ 3)) → blind_reading s ≡ text_refused NeverClosed x.at
        read_opening h = at_other ∙ ap (λ (k : Ground). text_refused k x.at) (ground_other m h)
