-- What is answered of a text is what its grounds say, and nothing else.
use mathlib.Core.Path.{◌≡◌, refl, sym, ap, subst, subst⁻¹, ◌∙◌}
use mathlib.Core.Bool.{Bool, true, false}
use mathlib.Core.Logic.{⊎_elim, ◌↔◌}
use Prim.Native.Nat.{ℕ, ◌≤◌, ◌<◌}
use native.Mathlib.Omega.{arith}
use mathlib.Core.List.{List, [], ◌∷◌, ◌++◌, append-nil}
use lib.ListN.{length, get_or, length-append}
use borrow.Author.Tests.{eq-eqb, ne_eqb, lt-ltb, le-ltb}
use Rattle.answer.specs.Answer.{Said, Answer, Accepted, Refused}
use Rattle.answer.specs.Grounds.{GivenIf, First, Never, GivenFirst, ◌then◌, Decides}
use Rattle.answer.specs.declared.Ground.TheVariants.{TextLength, UnknownByte, ClosesNothing, NeverClosed, ClosesOtherKind}
use Rattle.answer.specs.declared.Place.TheVariants.{ByteInQ}
use Rattle.answer.proofs.Denied.{clash}
use Rattle.answer.proofs.Grounds.{ground, ground_first, ground_never, stops, goes_on}
use Rattle.tree.specs.Run.{Run, spell}
use Rattle.character.specs.Character.{role_of}
use Rattle.tree.specs.Reading.{Meant, OneKind, Spells, Runs, first, runs, Reading, reading, text_answer, read_of, read_answer, bad_length, first_refused, stopped, ground_at, first_other_kind, with_kinds}
use Rattle.tree.specs.Reading.Runs.{last, more}
use Rattle.tree.specs.Reading.Reading.{text_accepted, text_refused}
use Rattle.tree.specs.Grounds.{UnknownByteAt, Closes, Closed, ClosesNothingAt, NeverClosedAt, LengthRefused, TextSays}
use Rattle.character.specs.declared.Role.{Role}
use Rattle.character.specs.declared.Role.TheVariants.{Opening, Closing}
use Rattle.tree.proofs.Leaves.{lt_or_le}
use Rattle.tree.proofs.FirstRefused.{refused_there, refused_first, refused_never, within, Clean, clean, clean_front}
use Rattle.tree.proofs.Lengths.{length_few, length_fits, tells_length}
use Rattle.tree.proofs.Splits.{Stop, Splits, splits, begins, ended, after}
use Rattle.tree.proofs.Splits.Stop.{none, open_at, bad_at}
use Rattle.tree.proofs.Spelling.{read_spell, spell_injective, first_meant}
use Rattle.tree.proofs.Partners.{cut, closed_more, placed, placed_closes, placed_closed, placed_clean, not_closed, spell_not_opened, closes_all}
use Rattle.tree.proofs.OtherKinds.{KindsOf, kinds_of_text}
use Rattle.tree.proofs.OtherKinds.KindsOf.{alike, differ}
use Rattle.tree.proofs.Texts.{read_length, read_fits, blind_unknown, blind_known}

abbrev Decided : List ℕ → Reading → Type 0
Decided s x = Decides (TextSays s) (text_answer x)

-- Ground 1, by its test.
length_given : (s : List ℕ) → bad_length (length s) ≡ true → Decides (GivenIf (LengthRefused s) 1 (ByteInQ 0)) (Refused TextLength (ByteInQ 0))
length_given s h = rw h at (ground (bad_length (length s)) (tells_length (length s)) TextLength (ByteInQ 0))

length_passed : (s : List ℕ) → bad_length (length s) ≡ false → Decides (GivenIf (LengthRefused s) 1 (ByteInQ 0)) Accepted
length_passed s h = rw h at (ground (bad_length (length s)) (tells_length (length s)) TextLength (ByteInQ 0))

-- What is read of a text that is neither refused for its length nor for a byte.
module _ (s : List ℕ) (fits : bad_length (length s) ≡ false) (known : length s ≤ first_refused s) where
  reads : reading s ≡ with_kinds s (stopped s (first (runs s)))
  reads = read_fits s fits ∙ ap (with_kinds s) (blind_known s known)

  -- Every bracket before the byte at which the first run stops has its partner.
  closing_before : (r : Run) → Meant r → (t f : List ℕ) (x : ℕ) (q : List ℕ) → role_of x ≡ Closing → s ≡ spell r ++ t → s ≡ f ++ x ∷ q → length f < length (spell r) → Closes f
  closing_before r m t f x q mx e g h = ⊎_elim
      (λ u. placed_closes f x u.0 (placed r m f x u.0 u.1) mx)
      (λ u. absurd (omega (arith, ap length u.1, length-append (spell r) u.0)))
      (cut (spell r) t f x q (sym e ∙ g))

  opening_before : (r : Run) → Meant r → (t f : List ℕ) (x : ℕ) (q : List ℕ) → role_of x ≡ Opening → s ≡ spell r ++ t → s ≡ f ++ x ∷ q → length f < length (spell r) → Closed q
  opening_before r m t f x q mx e g h = ⊎_elim
      (λ u. subst Closed (sym u.2) (closed_more u.0 t (placed_closed f x u.0 (placed r m f x u.0 u.1) mx)))
      (λ u. absurd (omega (arith, ap length u.1, length-append (spell r) u.0)))
      (cut (spell r) t f x q (sym e ∙ g))

  stray : (r : Run) → Meant r → (c : ℕ) (t : List ℕ) → role_of c ≡ Closing → s ≡ spell r ++ c ∷ t → First (ClosesNothingAt s) (length (spell r))
  stray r m c t mc e = record {
    holds = record { front = spell r; byte = c; back = t; split = e; place = refl; closing = mc; unopened = spell_not_opened r m };
    first = λ j lt w. w.unopened (closing_before r m (c ∷ t) w.front w.byte w.back w.closing e w.split (omega (arith, w.place)));
  }

  unclosed : (r : Run) → Meant r → (c : ℕ) (t : List ℕ) (q : Run) → role_of c ≡ Opening → s ≡ spell r ++ c ∷ t → runs t ≡ last q → First (NeverClosedAt s) (length (spell r))
  unclosed r m c t q mc e f = record {
    holds = record { front = spell r; byte = c; back = t; split = e; place = refl; opening = mc; unclosed = not_closed t q f };
    first = λ j lt w. w.unclosed (opening_before r m (c ∷ t) w.front w.byte w.back w.opening e w.split (omega (arith, w.place)));
  }

  no_stray : ended (runs s) ≡ false → Never (ClosesNothingAt s)
  no_stray e k w =
      w.unopened (closes_all (length w.front) w.front w.byte w.back w.closing (omega arith) (clean_front w.front (w.byte ∷ w.back) (subst Clean w.split (clean s known))) (ap (λ (l : List ℕ). ended (runs l)) (sym w.split) ∙ e))

  no_unclosed : (r : Run) → Meant r → s ≡ spell r → Never (NeverClosedAt s)
  no_unclosed r m e k w =
      w.unclosed (opening_before r m [] w.front w.byte w.back w.opening (e ∙ sym (append-nil (spell r))) w.split (omega (arith, within s w.front w.byte w.back w.split, ap length e)))

  stopped_at : (r : Run) (c : ℕ) (t : List ℕ) → s ≡ spell r ++ c ∷ t → (m : Role) → role_of c ≡ m → with_kinds s (stopped s r) ≡ text_refused (ground_at m) (length (spell r))
  stopped_at r c t e m k =
      let n : length (spell r) ≡ length s → ⊥ = λ h. omega (arith, ap length e, length-append (spell r) (c ∷ t)) in
      let st : stopped s r ≡ text_refused (ground_at (role_of (get_or s (length (spell r)) 0))) (length (spell r)) = rw (ne_eqb (length (spell r)) (length s) n) in
      ap (with_kinds s) st ∙ ap (λ (x : Role). text_refused (ground_at x) (length (spell r))) (ap role_of (after s (spell r) (c ∷ t) e) ∙ k)

  -- The whole text is a run, and what is answered hangs on its kinds.
  stopped_end : (r : Run) → s ≡ spell r → stopped s r ≡ text_accepted r
  stopped_end r e = rw (eq-eqb (length (spell r)) (length s) (sym (ap length e)))

  same_kinds_lem : (r : Run) → s ≡ spell r → length s ≤ first_other_kind s [] → with_kinds s (stopped s r) ≡ text_accepted r
  same_kinds_lem r e h = ap (with_kinds s) (stopped_end r e) ∙ rw (le-ltb (first_other_kind s []) (length s) h)

  other_kind : (r : Run) → s ≡ spell r → first_other_kind s [] < length s → with_kinds s (stopped s r) ≡ text_refused ClosesOtherKind (first_other_kind s [])
  other_kind r e h = ap (with_kinds s) (stopped_end r e) ∙ rw (lt-ltb (first_other_kind s []) (length s) h)

  -- Grounds 1 and 2 are not given.
  no_unknown : {K : Said → Type 0} {a : Answer} → Decides K a → Decides (GivenIf (LengthRefused s) 1 (ByteInQ 0) then GivenFirst (UnknownByteAt s) 2 ByteInQ then K) a
  no_unknown d = goes_on (length_passed s fits) (goes_on (ground_never UnknownByte ByteInQ (refused_never s known)) d)

  -- Nor are 3 and 4.
  no_open : {K : Said → Type 0} {a : Answer} (r : Run) → Meant r → s ≡ spell r → ended (runs s) ≡ false → Decides K a → Decides (GivenIf (LengthRefused s) 1 (ByteInQ 0) then GivenFirst (UnknownByteAt s) 2 ByteInQ then GivenFirst (ClosesNothingAt s) 3 ByteInQ then GivenFirst (NeverClosedAt s) 4 ByteInQ then K) a
  no_open r m e f d = no_unknown (goes_on (ground_never ClosesNothing ByteInQ (no_stray f)) (goes_on (ground_never NeverClosed ByteInQ (no_unclosed r m e)) d))

  kinds_decide : (r : Run) → Meant r → runs s ≡ last r → s ≡ spell r → KindsOf r s → Decided s (with_kinds s (stopped s r))
  kinds_decide r m f e (alike one nowhere h) = subst (Decided s) (sym (same_kinds_lem r e h)) (no_open r m e (ap ended f) (ground_never ClosesOtherKind ByteInQ nowhere))
  kinds_decide r m f e (differ two w h) = subst (Decided s) (sym (other_kind r e h)) (no_open r m e (ap ended f) (ground_first ClosesOtherKind ByteInQ w))

  -- By what follows the first run: a closing byte, an opening one, or the end.
  last_decides : (r : Run) → Meant r → (t : List ℕ) → runs s ≡ last r → s ≡ spell r ++ t → Stop t → Decided s (with_kinds s (stopped s r))
  last_decides r m [] f e none =
      let e' : s ≡ spell r = e ∙ append-nil (spell r) in
      kinds_decide r m f e' (kinds_of_text r m s e')
  last_decides r m (c ∷ t) f e (open_at {q = q} k g) =
      subst (Decided s) (sym (stopped_at r c t e Opening k))
      (no_unknown (goes_on (ground_never ClosesNothing ByteInQ (no_stray (ap ended f))) (stops (ground_first NeverClosed ByteInQ (unclosed r m c t q k e g)))))
  last_decides r m (c ∷ t) f e (bad_at k) =
      absurd (refused_never s known (length (spell r)) (record { front = spell r; byte = c; back = t; split = e; place = refl; unknown = k }))

  run_decides : (x : Runs) → runs s ≡ x → Splits x s → Meant (first x) → Decided s (with_kinds s (stopped s (first x)))
  run_decides (last r) f w m = last_decides r m w.0 f w.1 w.2
  run_decides (more r c rs) f w m =
      subst (Decided s) (sym (stopped_at r c w.0 w.1 Closing w.2))
      (no_unknown (stops (ground_first ClosesNothing ByteInQ (stray r m c w.0 w.2 w.1))))

  known_decides : Decided s (reading s)
  known_decides = rw reads (run_decides (runs s) refl (splits s) (first_meant s))

-- What is answered of a text is what its grounds say, and nothing else.
pub text_decides : (s : List ℕ) → Decides (TextSays s) (text_answer (reading s))
text_decides s = go (bad_length (length s)) refl
  where
    go : (t : Bool) → bad_length (length s) ≡ t → Decided s (reading s)
    go true h = rw (read_length s h) (stops (length_given s h))
    go false h = ⊎_elim
        (λ u. rw (read_fits s h, blind_unknown s u) (goes_on (length_passed s h) (stops (ground_first UnknownByte ByteInQ (refused_first s u)))))
        (known_decides s h)
        (lt_or_le (first_refused s) (length s))

-- So is what reading it answers.
answers_alike : (x : Reading) → read_answer (read_of x) ≡ text_answer x
answers_alike (text_accepted r) = refl
answers_alike (text_refused g k) = refl

pub tree_decides : (s : List ℕ) → Decides (TextSays s) (read_answer (read_of (reading s)))
tree_decides s = subst⁻¹ (Decides (TextSays s)) (answers_alike (reading s)) (text_decides s)

-- No byte of a run's text is refused.
pub spell_known : (r : Run) → Meant r → length (spell r) ≤ first_refused (spell r)
spell_known r m = ⊎_elim
    (λ h. let w = refused_there (spell r) h in absurd (placed_clean w.front w.byte w.back (placed r m w.front w.byte w.back w.split) w.unknown))
    (λ h. h)
    (lt_or_le (first_refused (spell r)) (length (spell r)))

one_accepted : (r : Run) → OneKind r → (fits : bad_length (length (spell r)) ≡ false) (known : length (spell r) ≤ first_refused (spell r)) → KindsOf r (spell r) → with_kinds (spell r) (stopped (spell r) r) ≡ text_accepted r
one_accepted r one fits known (alike same nowhere h) = same_kinds_lem (spell r) fits known r refl h
one_accepted r one fits known (differ two w h) = absurd (two one)

-- The text of every run that is not too long and whose pairs are each of one kind is accepted with that run.
pub read_accepts : (r : Run) → Meant r → OneKind r → bad_length (length (spell r)) ≡ false → reading (spell r) ≡ text_accepted r
read_accepts r m one fits =
    let known = spell_known r m in
    reads (spell r) fits known
    ∙ ap (λ (x : Runs). with_kinds (spell r) (stopped (spell r) (first x))) (read_spell r m)
    ∙ one_accepted r one fits known (kinds_of_text r m (spell r) refl)

-- A text is accepted with a run exactly if that run spells it, each of its pairs of one kind.
module _ (s : List ℕ) (r : Run) (e : reading s ≡ text_accepted r) where
  abbrev Accepts : Type 0
  Accepts = (s ≡ spell r) × Meant r × (bad_length (length s) ≡ false) × OneKind r

  module _ (fits : bad_length (length s) ≡ false) (known : length s ≤ first_refused s) where
    accepts_whole : s ≡ spell (first (runs s)) → KindsOf (first (runs s)) s → Accepts
    accepts_whole whole (alike one nowhere h) =
        let same : first (runs s) ≡ r = cc (reads s fits known, same_kinds_lem s fits known (first (runs s)) whole h) in
        (whole ∙ ap spell same, subst Meant same (first_meant s), fits, subst OneKind same one)
    accepts_whole whole (differ two w h) = clash (cc (reads s fits known, other_kind s fits known (first (runs s)) whole h))

    spelled_by : (t : List ℕ) → s ≡ spell (first (runs s)) ++ t → Accepts
    spelled_by [] f =
        let whole : s ≡ spell (first (runs s)) = f ∙ append-nil (spell (first (runs s))) in
        accepts_whole whole (kinds_of_text (first (runs s)) (first_meant s) s whole)
    spelled_by (c ∷ t) f = let g = stopped_at s fits known (first (runs s)) c t f (role_of c) refl in clash (cc (reads s fits known))

  pub accepted_spell : Accepts
  accepted_spell = go (bad_length (length s)) refl
    where
      go : (b : Bool) → bad_length (length s) ≡ b → Accepts
      go true h = clash (cc (read_length s h))
      go false h = ⊎_elim
          (λ u. clash (cc (read_fits s h ∙ ap (with_kinds s) (blind_unknown s u))))
          (λ u. let w = begins s (runs s) (splits s) in spelled_by h u w.0 w.1)
          (lt_or_le (first_refused s) (length s))

pub accepted_exactly : (s : List ℕ) (r : Run) → (reading s ≡ text_accepted r) ↔ Spells r s
accepted_exactly s r = (
  λ e. let w = accepted_spell s r e in record { bytes = w.0; meant = w.1; kinds = w.3; few = length_few (length s) w.2 },
  λ w. ap reading w.bytes ∙ read_accepts r w.meant w.kinds (subst (λ (l : List ℕ). bad_length (length l) ≡ false) w.bytes (length_fits (length s) w.few)),
)

-- Just one run spells a text.
pub one_run : (s : List ℕ) (r q : Run) → Spells r s → Spells q s → r ≡ q
one_run s r q v w = spell_injective r q v.meant w.meant (sym v.bytes ∙ w.bytes)
