-- The scan for a stretch: on a text with a part that spells the nodes a to b, it ends behind that part with the part's width.
use mathlib.Core.Path.{◌≡◌, refl, sym, ap, ap₂, subst, ◌∙◌}
use mathlib.Core.Bool.{Bool, true, false, cond, true≢false}
use mathlib.Core.Logic.{⊎_elim}
use Prim.Native.Nat.{ℕ, suc, ◌+◌, ◌*◌, ◌-◌, ◌≤◌, ◌<◌}
use native.Mathlib.Omega.{arith}
use native.Mathlib.Numerals.{add-one}
use mathlib.Core.List.{List, [], ◌∷◌, ◌++◌, append_assoc}
use lib.ListN.{length, get_or, take, drop, length-append, take-append-drop, drop_of_length-le}
use lib.Seq.{take_at, take-append_seam, drop-append_seam, drop-cons, take-add}
use lib.Dec.{leb}
use borrow.Author.Tests.{le-leb, lt-leb, lt-ltb, le-ltb}
use Rattle.tree.specs.Run.{Run, spell, size}
use Rattle.tree.specs.Run.Run.{end, dot, pair}
use Rattle.character.specs.Character.{role_of}
use Rattle.tree.specs.Reading.{Meant, OneKind}
use Rattle.stretch.specs.inner.Scan.{ends_of, own_bytes, counted, unmoved, scan_to}
use Rattle.character.specs.declared.Role.{Role}
use Rattle.character.specs.declared.Role.TheVariants.{Unpaired, Opening, Closing, Refused}
use Rattle.stretch.specs.declared.search.Scan.{Scan}
use Rattle.tree.proofs.Leaves.{lt_or_le}

-- What the bytes of a text weigh together, each by its role.
abbrev pub weight : (Role → ℕ) → List ℕ → ℕ
weight f [] = 0
weight f (x ∷ s) = f (role_of x) + weight f s

-- The nodes that end in a text. A node's number is that of the nodes that end before the byte that ends it.
abbrev pub ends : List ℕ → ℕ
ends s = weight ends_of s

-- The bytes of the nodes that end in a text.
abbrev bytes : List ℕ → ℕ
bytes s = weight own_bytes s

pub weight_append : (f : Role → ℕ) (a b : List ℕ) → weight f (a ++ b) ≡ weight f a + weight f b
weight_append f [] b = omega arith
weight_append f (x ∷ a) b = omega (arith, weight_append f a b)

pub ends_spell : (r : Run) → Meant r → ends (spell r) ≡ size r
ends_spell end m = refl
ends_spell (dot c r) m = omega (arith, ap ends_of m.0, ends_spell r m.1)
ends_spell (pair o i c r) m =
    omega (arith, ap ends_of m.0, ap ends_of m.2, weight_append ends_of (spell i) (c ∷ spell r), ends_spell i m.1, ends_spell r m.3)

bytes_spell : (r : Run) → Meant r → bytes (spell r) ≡ length (spell r)
bytes_spell end m = refl
bytes_spell (dot c r) m = omega (arith, ap own_bytes m.0, bytes_spell r m.1)
bytes_spell (pair o i c r) m =
    omega (arith, ap own_bytes m.0, ap own_bytes m.2, weight_append own_bytes (spell i) (c ∷ spell r), length-append (spell i) (c ∷ spell r), bytes_spell i m.1, bytes_spell r m.3)

pub one_end : (m : Role) → ends_of m ≤ 1
one_end Unpaired = omega arith
one_end Opening = omega arith
one_end Closing = omega arith
one_end Refused = omega arith

pub two_bytes : (m : Role) → own_bytes m ≤ 2 * ends_of m
two_bytes Unpaired = omega arith
two_bytes Opening = omega arith
two_bytes Closing = omega arith
two_bytes Refused = omega arith

ends_few : (s : List ℕ) → ends s ≤ length s
ends_few [] = omega arith
ends_few (x ∷ s) = omega (arith, one_end (role_of x), ends_few s)

-- A part of a text that spells the nodes a to b.
pub record Spelled (s : List ℕ) (a b : ℕ) : Type 0 where
  pub front : List ℕ
  pub run : Run
  pub back : List ℕ
  pub meant : Meant run
  pub kinds : OneKind run
  pub split : s ≡ front ++ (spell run ++ back)
  pub start : ends front ≡ a
  pub order : a ≤ b
  pub count : size run ≡ b - a + 1

-- The last byte of a run that is not empty ends a node.
record LastEnds (s : List ℕ) : Type 0 where
  before : List ℕ
  byte : ℕ
  split : s ≡ before ++ byte ∷ []
  one : ends (byte ∷ []) ≡ 1

last_after : (p s : List ℕ) → LastEnds s → LastEnds (p ++ s)
last_after p s w = record { before = p ++ w.before; byte = w.byte; split = ap (λ (l : List ℕ). p ++ l) w.split ∙ sym (append_assoc p w.before (w.byte ∷ [])); one = w.one }

-- After a byte that ends a node the run may go on.
last_next : (p : List ℕ) (c : ℕ) (r : Run) → ends (c ∷ []) ≡ 1 → (0 < size r → LastEnds (spell r)) → LastEnds (p ++ c ∷ spell r)
last_next p c r e rec = go r rec
  where
    on : (q : Run) → LastEnds (spell q) → LastEnds (p ++ c ∷ spell q)
    on q w = subst LastEnds (append_assoc p (c ∷ []) (spell q)) (last_after (p ++ c ∷ []) (spell q) w)

    go : (q : Run) → (0 < size q → LastEnds (spell q)) → LastEnds (p ++ c ∷ spell q)
    go end f = record { before = p; byte = c; split = refl; one = e }
    go (dot d q) f = on (dot d q) (f (omega arith))
    go (pair o i d q) f = on (pair o i d q) (f (omega arith))

last_ends : (r : Run) → Meant r → 0 < size r → LastEnds (spell r)
last_ends end m h = absurd (omega arith)
last_ends (dot c r) m h = last_next [] c r (omega (arith, ap ends_of m.0)) (last_ends r m.1)
last_ends (pair o i c r) m h = last_next (o ∷ spell i) c r (omega (arith, ap ends_of m.2)) (last_ends r m.3)

-- All bytes of a text passed.
abbrev scanned : ℕ → Scan → List ℕ → Scan
scanned a c [] = c
scanned a c (x ∷ s) = scanned a (counted a x c) s

module _ (a : ℕ) where
  scanned_append : (c : Scan) (p q : List ℕ) → scanned a c (p ++ q) ≡ scanned a (scanned a c p) q
  scanned_append c [] q = refl
  scanned_append c (x ∷ p) q = scanned_append (counted a x c) p q

  scanned_at : (c : Scan) (p : List ℕ) → (scanned a c p).at ≡ c.at + length p
  scanned_at c [] = omega arith
  scanned_at c (x ∷ p) = omega (arith, scanned_at (counted a x c) p)

  scanned_nodes : (c : Scan) (p : List ℕ) → (scanned a c p).nodes ≡ c.nodes + ends p
  scanned_nodes c [] = omega arith
  scanned_nodes c (x ∷ p) = omega (arith, scanned_nodes (counted a x c) p)

  -- From node a on the bytes of the nodes count, and before it none.
  scanned_high : (c : Scan) (p : List ℕ) → a ≤ c.nodes → (scanned a c p).width ≡ c.width + bytes p
  scanned_high c [] h = omega arith
  scanned_high c (x ∷ p) h =
      omega (arith, scanned_high (counted a x c) p (omega arith), ap (λ (t : Bool). cond t (own_bytes (role_of x)) 0) (le-leb a c.nodes h))

  scanned_low : (c : Scan) (p : List ℕ) → c.nodes + ends p ≤ a → (scanned a c p).width ≡ c.width
  scanned_low c [] h = refl
  scanned_low c (x ∷ p) h =
      omega (arith, scanned_low (counted a x c) p (omega arith), none (role_of x) (leb a c.nodes) (λ l. lt-leb a c.nodes (omega arith)))
    where
      none : (m : Role) (t : Bool) → (0 < ends_of m → t ≡ false) → cond t (own_bytes m) 0 ≡ 0
      none m true f = ⊎_elim (λ h. absurd (true≢false (f h))) (λ h. omega (arith, two_bytes m)) (lt_or_le 0 (ends_of m))
      none m false f = refl

  module _ (b : ℕ) where
    -- The scan passes bytes while node b has not ended, and stops once it has.
    scan_stop : (c : Scan) (s : List ℕ) → b < c.nodes → scan_to a b c s ≡ c
    scan_stop c [] h = refl
    scan_stop c (x ∷ s) h = ap (λ (k : Bool). cond k c (scan_to a b (counted a x c) s)) (lt-ltb b c.nodes h)

    scan_next : (c : Scan) (x : ℕ) (s : List ℕ) → c.nodes ≤ b → scan_to a b c (x ∷ s) ≡ scan_to a b (counted a x c) s
    scan_next c x s h = ap (λ (k : Bool). cond k c (scan_to a b (counted a x c) s)) (le-ltb b c.nodes h)

    scan_pass : (c : Scan) (p s : List ℕ) → c.nodes + ends p ≤ b → scan_to a b c (p ++ s) ≡ scan_to a b (scanned a c p) s
    scan_pass c [] s h = refl
    scan_pass c (x ∷ p) s h = scan_next c x (p ++ s) (omega arith) ∙ scan_pass (counted a x c) p s (omega arith)

    -- What it has passed is a beginning of the text.
    record Passed (c : Scan) (s : List ℕ) : Type 0 where
      passed : List ℕ
      ahead : List ℕ
      split : s ≡ passed ++ ahead
      scan : scan_to a b c s ≡ scanned a c passed

    passes : (c : Scan) (s : List ℕ) → Passed c s
    passes c [] = record { passed = []; ahead = []; split = refl; scan = refl }
    passes c (x ∷ s) = ⊎_elim
        (λ h. record { passed = []; ahead = x ∷ s; split = refl; scan = scan_stop c (x ∷ s) h })
        (λ h. let w = passes (counted a x c) s in record { passed = x ∷ w.passed; ahead = w.ahead; split = ap (λ (l : List ℕ). x ∷ l) w.split; scan = scan_next c x s h ∙ w.scan })
        (lt_or_le b c.nodes)

    scan_few : (c : Scan) (s : List ℕ) → c.nodes ≤ b + 1 → (scan_to a b c s).nodes ≤ b + 1
    scan_few c [] h = h
    scan_few c (x ∷ s) h = ⊎_elim
        (λ l. omega (arith, ap (λ (k : Scan). k.nodes) (scan_stop c (x ∷ s) l)))
        (λ l. omega (arith, ap (λ (k : Scan). k.nodes) (scan_next c x s l), scan_few (counted a x c) s (omega (arith, one_end (role_of x)))))
        (lt_or_le b c.nodes)

    -- On a text with a part that spells the nodes a to b it passes all before the part, and the part.
    scan_spelled : (s : List ℕ) (w : Spelled s a b) → scan_to a b unmoved s ≡ scanned a unmoved (w.front ++ spell w.run)
    scan_spelled s w =
        let l = last_ends w.run w.meant (omega (arith, w.count)) in
        let x : ℕ = l.byte in
        let p : List ℕ = w.front ++ l.before in
        let at : s ≡ p ++ x ∷ w.back =
        w.split ∙ ap (λ (k : List ℕ). w.front ++ k) (ap (λ (k : List ℕ). k ++ w.back) l.split ∙ append_assoc l.before (x ∷ []) w.back) ∙ sym (append_assoc w.front l.before (x ∷ w.back)) in
        let few : ends p ≡ b = omega (arith, weight_append ends_of w.front l.before, ap ends l.split, weight_append ends_of l.before (x ∷ []), l.one, ends_spell w.run w.meant, w.start, w.count, w.order) in
        let n = scanned_nodes unmoved p in
        let step : scanned a unmoved (p ++ x ∷ []) ≡ counted a x (scanned a unmoved p) = scanned_append unmoved p (x ∷ []) in
        ap (scan_to a b unmoved) at
        ∙ scan_pass unmoved p (x ∷ w.back) (omega arith)
        ∙ scan_next (scanned a unmoved p) x w.back (omega arith)
        ∙ scan_stop (counted a x (scanned a unmoved p)) w.back (omega (arith, l.one))
        ∙ sym step
        ∙ ap (scanned a unmoved) (append_assoc w.front l.before (x ∷ []) ∙ ap (λ (k : List ℕ). w.front ++ k) (sym l.split))

    module _ (s : List ℕ) (c : Scan) (is : c ≡ scan_to a b unmoved s) where
      pub scan_inside : c.at ≤ length s
      scan_inside =
          let w = passes unmoved s in
          omega (arith, ap (λ (k : Scan). k.at) (is ∙ w.scan), scanned_at unmoved w.passed, ap length w.split, length-append w.passed w.ahead)

      pub scan_counts : c.nodes ≤ length s
      scan_counts =
          let w = passes unmoved s in
          omega (arith, ap (λ (k : Scan). k.nodes) (is ∙ w.scan), scanned_nodes unmoved w.passed, ends_few w.passed, ap length w.split, length-append w.passed w.ahead)

      -- What the scan ends with where there is such a part.
      module _ (w : Spelled s a b) where
        ran : c ≡ scanned a unmoved (w.front ++ spell w.run)
        ran = is ∙ scan_spelled s w

        pub scan_at : c.at ≡ length w.front + length (spell w.run)
        scan_at = omega (arith, ap (λ (k : Scan). k.at) ran, scanned_at unmoved (w.front ++ spell w.run), length-append w.front (spell w.run))

        pub scan_nodes : c.nodes ≡ b + 1
        scan_nodes = omega (arith, ap (λ (k : Scan). k.nodes) ran, scanned_nodes unmoved (w.front ++ spell w.run), weight_append ends_of w.front (spell w.run), ends_spell w.run w.meant, w.start, w.count, w.order)

        pub scan_width : c.width ≡ length (spell w.run)
        scan_width =
            let n = scanned_nodes unmoved w.front in
            omega (arith, ap (λ (k : Scan). k.width) (ran ∙ scanned_append unmoved w.front (spell w.run)), scanned_high (scanned a unmoved w.front) (spell w.run) (omega (arith, w.start)), scanned_low unmoved w.front (omega (arith, w.start)), bytes_spell w.run w.meant)

        pub scan_part : take (c.at - (c.at - c.width)) (drop (c.at - c.width) s) ≡ spell w.run
        scan_part =
            let e : c.at - c.width ≡ length w.front = omega (arith, scan_at, scan_width) in
            let f : c.at - (c.at - c.width) ≡ length (spell w.run) = omega (arith, scan_at, scan_width) in
            ap₂ (λ (i j : ℕ). take i (drop j s)) f e
            ∙ ap (λ (l : List ℕ). take (length (spell w.run)) (drop (length w.front) l)) w.split
            ∙ ap (take (length (spell w.run))) (drop-append_seam w.front (spell w.run ++ w.back))
            ∙ take-append_seam (spell w.run) w.back

      -- Where the part that it ends with spells a run of the right number of nodes, those are the nodes a to b.
      pub spells : a ≤ b → b < c.nodes → c.width ≤ c.at → (y : Run) → Meant y → OneKind y → take (c.at - (c.at - c.width)) (drop (c.at - c.width) s) ≡ spell y → size y ≡ b - a + 1 → Spelled s a b
      spells le nb fit y my ky e z =
          let i : ℕ = c.at - c.width in
          let n : ℕ = c.at - i in
          let p = passes unmoved s in
          let at : c.at ≤ length s = scan_inside in
          let lp : length p.passed ≡ i + n = omega (arith, ap (λ (k : Scan). k.at) (is ∙ p.scan), scanned_at unmoved p.passed) in
          let pre : p.passed ≡ take i s ++ spell y =
          sym (take_at p.passed p.ahead (i + n) lp) ∙ ap (take (i + n)) (sym p.split) ∙ take-add i n s ∙ ap (λ (k : List ℕ). take i s ++ k) e in
          let few = scan_few unmoved s (omega arith) in
          let all : c.nodes ≡ ends (take i s) + size y =
          omega (arith, ap (λ (k : Scan). k.nodes) (is ∙ p.scan), scanned_nodes unmoved p.passed, ap ends pre, weight_append ends_of (take i s) (spell y), ends_spell y my) in
          record {
            front = take i s;
            run = y;
            meant = my;
            kinds = ky;
            back = drop n (drop i s);
            split = sym (take-append-drop i s) ∙ ap (λ (k : List ℕ). take i s ++ k) (sym (take-append-drop n (drop i s)) ∙ ap (λ (k : List ℕ). k ++ drop n (drop i s)) e);
            start = omega (arith, ap (λ (k : Scan). k.nodes) is);
            order = le;
            count = z;
          }

-- One byte, in each case of the code.
module _ (c : Scan) (a x : ℕ) (m : Role) (is : m ≡ role_of x) (e : ℕ) (ended : e ≡ ends_of m) where
  nodes_after : c.nodes + e ≡ (counted a x c).nodes
  nodes_after = ap (λ (k : ℕ). c.nodes + k) (ended ∙ ap ends_of is)

  pub count_low : c.nodes < a → ◌≡◌ {A = Scan} (record { at = c.at + 1; nodes = c.nodes + e; width = c.width }) (counted a x c)
  count_low h =
      let w : c.width ≡ (counted a x c).width = omega (arith, ap (λ (t : Bool). cond t (own_bytes (role_of x)) 0) (lt-leb a c.nodes h)) in
      λ j. record { at = c.at + 1; nodes = nodes_after j; width = w j }

  pub count_high : a ≤ c.nodes → (n : ℕ) → n ≡ own_bytes m → ◌≡◌ {A = Scan} (record { at = c.at + 1; nodes = c.nodes + e; width = c.width + n }) (counted a x c)
  count_high h n own =
      let w : c.width + n ≡ (counted a x c).width = omega (arith, own ∙ ap own_bytes is, ap (λ (t : Bool). cond t (own_bytes (role_of x)) 0) (le-leb a c.nodes h)) in
      λ j. record { at = c.at + 1; nodes = nodes_after j; width = w j }

-- The loop that scans: what it knows at byte k, and each way on.
pub record Scanning (s : List ℕ) (a b : ℕ) (c : Scan) (k : ℕ) : Type 0 where
  pub inside : k ≤ length s
  pub rest : scan_to a b unmoved s ≡ scan_to a b c (drop k s)
  pub nodes_few : c.nodes ≤ k
  pub width_few : c.width ≤ 2 * k
  pub here : c.at ≡ k

module _ (s : List ℕ) (a b : ℕ) where
  pub scan_starts : Scanning s a b unmoved 0
  scan_starts = record { inside = omega arith; rest = refl; nodes_few = omega arith; width_few = omega arith; here = refl }

  module _ (c : Scan) (k : ℕ) (inv : Scanning s a b c k) where
    pub scan_stops : b < c.nodes → c ≡ scan_to a b unmoved s
    scan_stops h = sym (inv.rest ∙ scan_stop a b c (drop k s) h)

    pub scan_ends : length s ≤ k → c ≡ scan_to a b unmoved s
    scan_ends h = sym (inv.rest ∙ ap (scan_to a b c) (drop_of_length-le s h))

    pub scan_goes_on : k < length s → c.nodes ≤ b → (d : Scan) → d ≡ counted a (get_or s k 0) c → Scanning s a b d (k + 1)
    scan_goes_on lt few d e =
        let x : ℕ = get_or s k 0 in
        let own : cond (leb a c.nodes) (own_bytes (role_of x)) 0 ≤ 2 = at_most (role_of x) (leb a c.nodes) in
        record {
          inside = omega arith;
          rest = inv.rest ∙ ap (scan_to a b c) (drop-cons s k 0 lt) ∙ scan_next a b c x (drop (suc k) s) few ∙ ap₂ (λ (z : Scan) (j : ℕ). scan_to a b z (drop j s)) (sym e) (sym (add-one k));
          nodes_few = omega (arith, ap (λ (z : Scan). z.nodes) e, one_end (role_of x), inv.nodes_few);
          width_few = omega (arith, ap (λ (z : Scan). z.width) e, inv.width_few);
          here = omega (arith, ap (λ (z : Scan). z.at) e, inv.here);
        }
      where
        at_most : (m : Role) (t : Bool) → cond t (own_bytes m) 0 ≤ 2
        at_most m true = omega (arith, two_bytes m, one_end m)
        at_most m false = omega arith
