-- What the search in a text answers is what the search in its tree does, in each case of the code.
use mathlib.Core.Path.{◌≡◌, refl, sym, ap, ap₂, subst, ◌∙◌}
use Prim.Native.Nat.{ℕ, ◌+◌, ◌-◌, ◌≤◌, ◌<◌}
use native.Mathlib.Omega.{arith}
use mathlib.Core.List.{List, [], ◌++◌}
use lib.ListN.{length, take, drop, length-append}
use lib.Seq.{take-append_seam, drop-append_seam}
use Rattle.std.specs.Prelude.{Option, Some, None, Result, Ok, Err}
use Rattle.answer.specs.Answer.{Answer, Accepted, Refused}
use Rattle.answer.specs.declared.Refusal.{Refusal}
use Rattle.answer.specs.Refusal.{result_of}
use Rattle.tree.specs.Run.{Run, spell, size, join}
use Rattle.tree.specs.Run.Run.{end, dot, pair}
use Rattle.tree.specs.Reading.{Meant, OneKind, Reading, reading, read_of, tree_of}
use Rattle.tree.specs.Reading.Reading.{text_accepted, text_refused}
use Rattle.stretch.specs.Stretch.{Siblings, Stretch, Found, stretch_in, Located, located_by, located, located_in, spelled, part, part_of}
use Rattle.stretch.specs.Stretch.Siblings.{here, behind_dot, into, behind_pair}
use Rattle.stretch.specs.Stretch.Found.{at, nowhere}
use Rattle.stretch.specs.inner.Scan.{unmoved, scan_to, ends_in, found_ends, LocatedRight}
use Rattle.stretch.specs.declared.search.Scan.{Scan}
use Rattle.stretch.specs.declared.search.Ends.{Ends}
use Rattle.tree.specs.declared.Tree.{Tree}
use Rattle.tree.specs.declared.RefusedText.{RefusedText}
use Rattle.tree.proofs.Lengths.{length_few, length_fits}
use Rattle.tree.proofs.Grounds.{accepted_spell, read_accepts}
use Rattle.stretch.proofs.Scans.{Spelled, scan_inside, scan_at, scan_nodes, scan_width, scan_part, spells}
use Rattle.stretch.proofs.Neighbours.{stands, neighbours}
use Rattle.stretch.proofs.Stretches.{stretches, no_stretch}

-- The items of a run whose bytes mean what they stand for do so too.
meant_join : (y z : Run) → Meant (join y z) → Meant y
meant_join end z m = tt
meant_join (dot c y) z m = (m.0, meant_join y z m.1)
meant_join (pair o i c y) z m = (m.0, m.1, m.2, meant_join y z m.3)

meant_siblings : {y r : Run} {a k : ℕ} → Meant r → Siblings y r a k → Meant y
meant_siblings {y = y} m (here z e) = meant_join y z (subst Meant e m)
meant_siblings m (behind_dot w) = meant_siblings m.1 w
meant_siblings m (into w) = meant_siblings m.1 w
meant_siblings m (behind_pair w) = meant_siblings m.3 w

-- So are those of a run whose pairs are each of one kind.
kinds_join : (y z : Run) → OneKind (join y z) → OneKind y
kinds_join end z k = tt
kinds_join (dot c y) z k = kinds_join y z k
kinds_join (pair o i c y) z k = (k.0, k.1, kinds_join y z k.2)

kinds_siblings : {y r : Run} {a k : ℕ} → OneKind r → Siblings y r a k → OneKind y
kinds_siblings {y = y} one (here z e) = kinds_join y z (subst OneKind e one)
kinds_siblings one (behind_dot w) = kinds_siblings one w
kinds_siblings one (into w) = kinds_siblings one.1 w
kinds_siblings one (behind_pair w) = kinds_siblings one.2 w

-- A text that is accepted with a run.
module _ (s : List ℕ) (a b : ℕ) (r : Run) (ok : reading s ≡ text_accepted r) where
  text : s ≡ spell r
  text = (accepted_spell s r ok).0

  meant : Meant r
  meant = (accepted_spell s r ok).1

  kinds : OneKind r
  kinds = (accepted_spell s r ok).3

  in_tree : (w : Spelled s a b) → Stretch r a b (length w.front) w.run
  in_tree w =
      record {
        order = w.order;
        siblings = subst (λ (j : ℕ). Siblings w.run r j (length w.front)) w.start (neighbours w.run w.meant (omega (arith, w.count)) r meant w.front w.back (sym text ∙ w.split));
        count = w.count;
      }

  in_text : {k : ℕ} {y : Run} → Stretch r a b k y → Spelled s a b
  in_text {y = y} w =
      let v = stands meant w.siblings in
      record { front = v.front; run = y; back = v.back; meant = meant_siblings meant w.siblings; kinds = kinds_siblings kinds w.siblings; split = text ∙ v.split; start = v.start; order = w.order; count = w.count }

  -- The bytes of a stretch spell it.
  spelled_part : {k : ℕ} {y : Run} → Stretch r a b k y → (k + length (spell y) ≤ length s) × (take (length (spell y)) (drop k s) ≡ spell y)
  spelled_part {k = k} {y = y} w =
      let v = stands meant w.siblings in
      let split : s ≡ v.front ++ (spell y ++ v.back) = text ∙ v.split in (
        omega (arith, ap length split, length-append v.front (spell y ++ v.back), length-append (spell y) v.back, v.place),
        ap₂ (λ (j : ℕ) (l : List ℕ). take (length (spell y)) (drop j l)) (sym v.place) split
            ∙ ap (take (length (spell y))) (drop-append_seam v.front (spell y ++ v.back))
            ∙ take-append_seam (spell y) v.back,
      )

module _ (s : List ℕ) (a b : ℕ) (l : Option Ends) where
  located_none : (Spelled s a b → ⊥) → l ≡ None → LocatedRight s a b l
  located_none none e r ok = e ∙ ap found_ends (sym ((no_stretch r a b).1 (λ k y w. none (in_text s a b r ok w))))

  located_some : (w : Spelled s a b) (i j : ℕ) → i ≡ length w.front → j ≡ length w.front + length (spell w.run) → l ≡ Some (record { from = i; to = j }) → LocatedRight s a b l
  located_some w i j f g e r ok =
      e
      ∙ (λ n. Some (record { from = f n; to = g n }))
      ∙ ap found_ends (sym ((stretches r a b (length w.front) w.run).1 (in_tree s a b r ok w)))

-- What a reading that accepts says of its text.
accepts : (x : Reading) (t : Tree) → read_of x ≡ Ok t → (y : Run) × (x ≡ text_accepted y) × (t.n ≡ size y + 1)
accepts (text_accepted y) t e = (y, refl, let f : t ≡ tree_of y = cc in ap (λ (k : Tree). k.n) f)
accepts (text_refused g k) t e = cc

pub read_run : (s : List ℕ) (x : Result Tree RefusedText) → x ≡ read_of (reading s) → (t : Tree) → x ≡ Ok t → (y : Run) × (reading s ≡ text_accepted y) × (t.n ≡ size y + 1)
read_run s x is t e = accepts (reading s) t (sym is ∙ e)

pub short_read : (s : List ℕ) (x : Result Tree RefusedText) → x ≡ read_of (reading s) → (t : Tree) → x ≡ Ok t → length s ≤ 255
short_read s x is t e = let w = read_run s x is t e in length_few (length s) (accepted_spell s w.0 w.1).2

-- The search, in each case.
module _ (s : List ℕ) (a b : ℕ) (l : Option Ends) where
  pub search_disordered : b < a → l ≡ None → LocatedRight s a b l
  search_disordered h e = located_none s a b l (λ w. omega (arith, w.order)) e

  module _ (c : Scan) (is : c ≡ scan_to a b unmoved s) where
    pub search_few : c.nodes ≤ b → l ≡ None → LocatedRight s a b l
    search_few h e = located_none s a b l (λ w. omega (arith, scan_nodes a b s c is w)) e

    pub search_wide : c.at < c.width → l ≡ None → LocatedRight s a b l
    search_wide h e = located_none s a b l (λ w. omega (arith, scan_at a b s c is w, scan_width a b s c is w)) e

    module _ (x : Result Tree RefusedText) (read : x ≡ read_of (reading (take (c.at - (c.at - c.width)) (drop (c.at - c.width) s)))) where
      -- A part that spells the nodes is read as such.
      reads_part : length s ≤ 255 → (w : Spelled s a b) → (t : Tree) × (x ≡ Ok t) × (t.n ≡ b - a + 2)
      reads_part short w =
          let m : length (spell w.run) ≤ 255 = omega (arith, scan_at a b s c is w, scan_inside a b s c is) in
          let f : x ≡ read_of (text_accepted w.run) = read ∙ ap read_of (ap reading (scan_part a b s c is w) ∙ read_accepts w.run w.meant w.kinds (length_fits (length (spell w.run)) m)) in
          (tree_of w.run, f, omega (arith, w.count))

      pub search_unread : length s ≤ 255 → ((t : Tree) → x ≡ Ok t → ⊥) → l ≡ None → LocatedRight s a b l
      search_unread short h e = located_none s a b l (λ w. let v = reads_part short w in h v.0 v.1) e

      module _ (t : Tree) (tells : x ≡ Ok t) where
        pub search_other : length s ≤ 255 → (t.n ≡ b - a + 2 → ⊥) → l ≡ None → LocatedRight s a b l
        search_other short h e = located_none s a b l (λ w. let v = reads_part short w in let same : v.0 ≡ t = cc (v.1) in h (ap (λ (k : Tree). k.n) (sym same) ∙ v.2)) e

        pub search_found : a ≤ b → b < c.nodes → c.width ≤ c.at → t.n ≡ b - a + 2 → l ≡ Some (record { from = c.at - c.width; to = c.at }) → LocatedRight s a b l
        search_found le nb fit n g =
            let y = read_run _ x read t tells in
            let v = accepted_spell _ y.0 y.1 in
            let w = spells a b s c is le nb fit y.0 v.1 v.3 v.0 (omega (arith, y.2)) in
            located_some s a b l w (c.at - c.width) c.at (omega (arith, scan_at a b s c is w, scan_width a b s c is w)) (scan_at a b s c is w) g

-- The bytes handed over are those located, and a refusal is no acceptance.
pub located_ok : (l : Located) (e : Ends) → Ok e ≡ result_of l.answer (ends_in l) → e ≡ ends_in l
located_ok l e h = go l.answer h
  where
    go : (x : Answer) → Ok e ≡ result_of x (ends_in l) → e ≡ ends_in l
    go Accepted f = cc
    go (Refused g p) f = cc

pub located_err : (l : Located) (e : Refusal) → Err e ≡ result_of l.answer (ends_in l) → l.answer ≡ Accepted → ⊥
located_err l e h f = let g : Err e ≡ Ok (ends_in l) = h ∙ ap (λ (x : Answer). result_of x (ends_in l)) f in cc

-- The part that is handed back lies in the text, and spells the stretch.
pub record PartOf (s : List ℕ) (a b : ℕ) (l : Ends) : Type 0 where
  pub order : l.from ≤ l.to
  pub inside : l.to ≤ length s
  pub is : take (l.to - l.from) (drop l.from s) ≡ part_of s a b

part_found : (s : List ℕ) (a b : ℕ) (r : Run) → reading s ≡ text_accepted r → (x : Found) → stretch_in r a b ≡ x → PartOf s a b (ends_in (located (reading s) a b))
unfolding part_of
part_found s a b r ok (at k y) e =
    let w = spelled_part s a b r ok ((stretches r a b k y).0 e) in
    let f : ends_in (located (reading s) a b) ≡ ends_in (located_by (at k y)) = ap (λ (z : Reading). ends_in (located z a b)) ok ∙ ap (λ (z : Found). ends_in (located_by z)) e in
    let n : k + length (spell y) - k ≡ length (spell y) = omega arith in
    subst (PartOf s a b) (sym f)
    record {
      order = omega arith;
      inside = w.0;
      is = ap (λ (m : ℕ). take m (drop k s)) n ∙ w.1 ∙ sym (ap (λ (z : Reading). part z a b) ok ∙ ap spelled e);
    }
part_found s a b r ok nowhere e =
    subst (PartOf s a b) (sym (ap (λ (z : Reading). ends_in (located z a b)) ok ∙ ap (λ (z : Found). ends_in (located_by z)) e))
    record { order = omega arith; inside = omega arith; is = sym (ap (λ (z : Reading). part z a b) ok ∙ ap spelled e) }

pub part_of_lem : (s : List ℕ) (a b : ℕ) (l : Ends) → l ≡ ends_in (located_in s a b) → PartOf s a b l
unfolding part_of
part_of_lem s a b l is = subst (PartOf s a b) (sym is) (go (reading s) refl)
  where
    go : (x : Reading) → reading s ≡ x → PartOf s a b (ends_in (located_in s a b))
    go (text_accepted r) e = part_found s a b r e (stretch_in r a b) refl
    go (text_refused g k) e =
        subst (PartOf s a b) (sym (ap (λ (z : Reading). ends_in (located z a b)) e))
        record { order = omega arith; inside = omega arith; is = sym (ap (λ (z : Reading). part z a b) e) }

-- Where it is refused nothing is handed back, and no byte stands before it.
pub part_none : (s : List ℕ) (a b : ℕ) → ((located_in s a b).answer ≡ Accepted → ⊥) → (part_of s a b ≡ []) × ((located_in s a b).from ≡ 0)
unfolding part_of
part_none s a b denied = go (reading s) denied
  where
    in_tree : (x : Found) → ((located_by x).answer ≡ Accepted → ⊥) → (spelled x ≡ []) × ((located_by x).from ≡ 0)
    in_tree (at k y) h = absurd (h refl)
    in_tree nowhere h = (refl, refl)

    go : (x : Reading) → ((located x a b).answer ≡ Accepted → ⊥) → (part x a b ≡ []) × ((located x a b).from ≡ 0)
    go (text_accepted r) h = in_tree (stretch_in r a b) h
    go (text_refused g k) h = (refl, refl)
