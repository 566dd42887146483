-- Passing the nodes between two listed ones: which of them are in the span, and which are unpaired border nodes.
use mathlib.Core.Path.{◌≡◌, refl, sym, ap, subst, ◌∙◌}
use mathlib.Core.Bool.{Bool, true, false, not, ◌&&◌, ◌||◌, true≢false, false≢true}
use mathlib.Core.Logic.{◌⊎◌, inl, inr}
use mathlib.Core.List.{List}
use Prim.Native.Nat.{ℕ, suc, ◌+◌, ◌-◌, ◌≤◌, ◌<◌}
use native.Mathlib.Omega.{arith}
use lib.Dec.{eqb, leb}
use lib.ListN.{length, get_or, set, length-set, take, drop, length-drop}
use lib.Seq.{length-take-le, get_or-set_same}
use borrow.Author.Tests.{leb-true, leb-false}
use Rattle.std.specs.Prelude.{Option, Some, None}
use Rattle.std.proofs.lemmas.List.{get_or-take, get_or-drop}
use Rattle.tree.specs.Nested.{leaf, In}
use Rattle.tree.proofs.Leaves.{lt_or_le}
use Rattle.seed.specs.Seed.{◌∈◌, last_node}
use Rattle.seed.specs.Tests.{some, spans, children, paired, bordered}
use Rattle.seed.proofs.Trees.{within}
use Rattle.seed.proofs.Lists.{span_holds, at_in, in_at}
use Rattle.seed.proofs.Tells.{tells_in, tells_below}
use Rattle.seed.proofs.Sides.{tells_spans}
use Rattle.seed.proofs.Search.{least}
use Rattle.judge.proofs.JudgeSteps.{last_node_at, spans_in, paired_in, paired_by, walk_start, walk_no}
use Rattle.judge.specs.inner.Steps.{Cut, UnderLast, Joined, Joins, Reaching, Past, Climbing, Passed}
use Rattle.judge.specs.inner.Steps.Joined.{whole, broken}
use Rattle.judge.specs.inner.Steps.Passed.{fine, bare}
use Rattle.judge.proofs.Rising.{ups_most}
use Rattle.judge.proofs.Tops.{never, tops_skip, tops_put}

-- A scan for a subtree that starts early enough.
pub reach_start : (l : List ℕ) (a x : ℕ) → Reaching l a a x false
reach_start l a x = record { some = λ e. absurd (false≢true e); none = λ e y u v. absurd (omega arith) }

pub reach_on : {l : List ℕ} {a y x : ℕ} {r s : Bool} → Reaching l a y x r → a ≤ y → s ≡ (r || leb (get_or l y 0) x) → Reaching l a (y + 1) x s
unfolding leaf
reach_on {l = l} {a = a} {y = y} {x = x} {r = true} p h e =
    record {
      some = λ d. let w = p.some refl in (w.0, w.1, omega (arith, w.2), w.3);
      none = λ d z u v. absurd (true≢false (sym e ∙ d));
    }
reach_on {l = l} {a = a} {y = y} {x = x} {r = false} p h e =
    record {
      some = λ d. (y, h, omega arith, leb-true (get_or l y 0) x (sym e ∙ d));
      none = λ d z u v.
          elim (lt_or_le z y) [
            | inl w ↦ p.none refl z u w
            | inr w ↦ let g : z ≡ y = omega arith in rw g (leb-false (get_or l y 0) x (sym e ∙ d))
          ];
    }

-- A part of the leaves, from one number to another.
module _ (l : List ℕ) {a b : ℕ} (run : a ≤ b) (within : b ≤ length l) where
  abbrev pub part : List ℕ
  part = take (b - a) (drop a l)

  length_part : length part ≡ b - a
  length_part = length-take-le (b - a) (drop a l) (omega (arith, length-drop a l))

  part_at : (k : ℕ) → k < b - a → get_or part k 0 ≡ get_or l (a + k) 0
  part_at k h = get_or-take (b - a) (drop a l) k 0 h ∙ get_or-drop a l k 0

  -- The scan over the part.
  pub reach_part : {k x : ℕ} {r : Bool} → k < length part → Reaching l a (a + k) x r → Reaching l a (a + (k + 1)) x (r || leb (get_or part k 0) x)
  reach_part {k} {x} {r} h p =
      let there : get_or part k 0 ≡ get_or l (a + k) 0 = part_at k (omega (arith, length_part, h)) in
      let next : a + k + 1 ≡ a + (k + 1) = omega arith in
      subst (λ y. Reaching l a y x (r || leb (get_or part k 0) x)) next (reach_on p (omega arith) (ap (λ y. r || leb y x) there))

or_true : (b c : Bool) → (b || true || c) ≡ true
or_true true c = refl
or_true false c = refl

-- What is known of a node's children.
module _ {f : ℕ → Bool} {l tops : List ℕ} {count x : ℕ} where
  joined_no : Joined f l tops count x None → children f l (leaf l x) x x ≡ false
  joined_no (broken d) = d

  joined_all : {left : ℕ} → Joined f l tops count x (Some left) → (left < count) × Cut count tops (leaf l x) left × (children f l (leaf l x) x x ≡ true)
  joined_all (whole u c d) = (u, c, d)

-- A node outside the span is no border node.
paired_out : (l xs : List ℕ) (x : ℕ) → spans l xs x ≡ false → paired l xs x ≡ true
unfolding paired
paired_out l xs x e = rw e (or_true (some (eqb x) xs) (not (eqb (leaf l x) x) && children (spans l xs) l (leaf l x) x x))

-- What is known at node x of the climb behind the listed node at a place: the node before it is the last top.
pub record Climb (l xs : List ℕ) (place : ℕ) (tops : List ℕ) (count x : ℕ) : Type 0 where
  pub past : Past l xs tops count x
  pub some : 0 < count
  pub top : get_or tops (count - 1) 0 + 1 ≡ x
  pub from : get_or xs place 0 < x
  pub to : x ≤ get_or xs (place + 1) 0

pub climb_start : {l xs : List ℕ} {place : ℕ} {tops : List ℕ} {count : ℕ} → Climbing l xs place tops count → Climb l xs place tops count (get_or xs place 0 + 1)
climb_start {place = place} p =
    record {
      past = p.past;
      some = p.some;
      top = omega (arith, p.top);
      from = omega arith;
      to = omega (arith, p.listed.ups place (place + 1) (omega arith) p.more);
    }

module _ {l xs : List ℕ} (p : UnderLast l xs) where
  -- The ancestors of a span node, up to the last node, are in the span.
  spans_over : (c z : ℕ) → spans l xs c ≡ true → In l z c → z ≤ last_node xs → spans l xs z ≡ true
  spans_over c z e h g =
      let w = span_holds p.tree xs c ((tells_spans l xs c).0 e) in
      let i = in_at xs w.0 w.1 in
      let d = within p.tree z c w.0 h w.2 in
      (tells_spans l xs z).1 (inr (w.0, w.1, (d, (omega (arith, d, p.low i.0 i.1, i.2), g))))

  -- One unpaired border node.
  bare_at : (x : ℕ) → x ≤ last_node xs → paired l xs x ≡ false → bordered l xs ≡ false
  unfolding bordered
  bare_at x h e =
      never _ (λ d. true≢false (sym ((tells_below (paired l xs) (λ (y : ℕ). paired l xs y ≡ true) (λ y. (λ u. u, λ u. u)) (suc (last_node xs))).0 d x (omega arith)) ∙ e))

  none_bare : ((x : ℕ) → x ≤ last_node xs → paired l xs x ≡ true) → bordered l xs ≡ true
  unfolding bordered
  none_bare all =
      (tells_below (paired l xs) (λ (y : ℕ). paired l xs y ≡ true) (λ y. (λ u. u, λ u. u)) (suc (last_node xs))).1 (λ x h. all x (omega arith))

  -- No node before the first of the list is in the span.
  before_first : (z : ℕ) → z < get_or xs 0 0 → spans l xs z ≡ false
  before_first z h = never _ (λ e. no (span_holds p.tree xs z ((tells_spans l xs z).0 e)))
    where
      no : (a : ℕ) × (a ∈ xs) × In l z a → ⊥
      no w = let i = in_at xs w.0 w.1 in omega (arith, w.2, i.2, ups_most xs p.ups 0 i.0 (omega arith) i.1)

  pub past_start : (tops : List ℕ) → length tops ≡ 256 → Past l xs tops 0 (get_or xs 0 0)
  past_start tops e =
      record {
        room = e;
        highest =
            record {
              few = omega arith;
              before = λ q u. absurd (omega arith);
              apart = λ j k u v. absurd (omega arith);
              each = λ q u. absurd (omega arith);
              all = λ z u d. absurd (true≢false (sym d ∙ before_first z u));
            };
        fine = λ z u. paired_out l xs z (before_first z u);
      }

  -- All nodes before the last are passed.
  pub past_end : {tops : List ℕ} {count : ℕ} → Past l xs tops count (last_node xs) → bordered l xs ≡ true
  past_end {count = count} q = none_bare (λ x h. elim (lt_or_le x (last_node xs)) [ inl u ↦ q.fine x u | inr u ↦ let e : x ≡ last_node xs = omega arith in rw e last ])
    where
      last : paired l xs (last_node xs) ≡ true
      last =
          elim (lt_or_le 0 (length xs)) [
            | inl u ↦ paired_in l xs (last_node xs) ((tells_in (last_node xs) xs).1 (rw (last_node_at xs) (at_in xs (length xs - 1) (omega arith))))
            | inr u ↦
                paired_out l xs (last_node xs)
                (never _ (λ e. let w = span_holds p.tree xs (last_node xs) ((tells_spans l xs (last_node xs)).0 e) in omega (arith, (in_at xs w.0 w.1).1)))
          ]

  module _ (place : ℕ) (more : place + 1 < length xs) where
    abbrev node : ℕ
    node = get_or xs place 0

    abbrev next : ℕ
    next = get_or xs (place + 1) 0

    next_most : next ≤ last_node xs
    next_most = rw (last_node_at xs) (ups_most xs p.ups (place + 1) (length xs - 1) (omega arith) (omega arith))

    -- Nothing listed lies between.
    between : (y : ℕ) → y ∈ xs → node < y → y < next → ⊥
    between y m h g =
        let i = in_at xs y m in
        elim (lt_or_le i.0 (place + 1)) [
          | inl u ↦ omega (arith, i.2, ups_most xs p.ups i.0 place (omega arith) (omega arith))
          | inr u ↦ omega (arith, i.2, ups_most xs p.ups (place + 1) i.0 u i.1)
        ]

    unlisted : (x : ℕ) → node < x → x < next → some (eqb x) xs ≡ false
    unlisted x h g = never _ (λ e. between x ((tells_in x xs).0 e) h g)

    -- A subtree that starts behind the listed node holds nothing listed.
    spans_out : (z : ℕ) → node < leaf l z → z < next → spans l xs z ≡ false
    spans_out z h g =
        never _ (λ e. let w = span_holds p.tree xs z ((tells_spans l xs z).0 e) in between w.0 w.1 (omega (arith, w.2)) (omega (arith, w.2)))

    -- The listed node becomes a top.
    pub pass_listed : {tops : List ℕ} {count left : ℕ} → Past l xs tops count node → node < 256 → Cut count tops (leaf l node) left → Climbing l xs place (set tops left node) (left + 1)
    pass_listed {tops = tops} {count = count} {left = left} q small c =
        let room : left < length tops = omega (arith, c.within, q.highest.few, q.room) in
        let z : left + 1 - 1 ≡ left = omega arith in
        let in' : some (eqb node) xs ≡ true = (tells_in node xs).1 (at_in xs place (omega arith)) in
        record {
          listed = p;
          more = more;
          some = omega arith;
          top = rw (z, get_or-set_same tops left node 0 room);
          past =
              record {
                room = length-set tops left node ∙ q.room;
                highest = tops_put p.tree q.highest c room (spans_in l xs node in');
                fine = λ x u. elim (lt_or_le x node) [ inl w ↦ q.fine x w | inr w ↦ let e : x ≡ node = omega arith in rw e (paired_in l xs node in') ];
              };
        }

    module _ {tops : List ℕ} {count x : ℕ} (q : Climb l xs place tops count x) where
      top_spans : spans l xs (x - 1) ≡ true
      top_spans =
          let z : x - 1 ≡ get_or tops (count - 1) 0 = omega (arith, q.top) in
          let s = q.some in
          rw z (q.past.highest.each (count - 1) (omega arith))

      -- A node whose subtree starts at the last top or before is an unlisted span node.
      over_spans : (y : ℕ) → x ≤ y → y < next → leaf l y < x → spans l xs y ≡ true
      over_spans y h g e = spans_over (x - 1) y top_spans (omega (arith, q.from)) (omega (arith, next_most))

      over_paired : (y : ℕ) → x ≤ y → y < next → leaf l y < x → paired l xs y ≡ children (spans l xs) l (leaf l y) y y
      over_paired y h g e = paired_by l xs y (unlisted y (omega (arith, q.from)) g) (over_spans y h g e) (λ d. omega arith)

      -- Node x is no leaf: v is its leftmost leaf.
      module _ (h : x < next) {v : ℕ} (leftmost : v ≡ leaf l x) (no-leaf : v < x) {o : Option ℕ} (joins : Joins l tops count x o) where
        inner : leaf l x < x
        inner = omega arith

        j : Joined (spans l xs) l tops count x o
        j = joins (spans l xs) p.tree q.past.highest q.top inner

        pub climb_no : o ≡ None → bordered l xs ≡ false
        climb_no e = bare_at x (omega (arith, next_most)) (over_paired x (omega arith) h inner ∙ joined_no (rw e at j))

        module _ {left : ℕ} (e : o ≡ Some left) where
          w : (left < count) × Cut count tops (leaf l x) left × (children (spans l xs) l (leaf l x) x x ≡ true)
          w = joined_all (rw e at j)

          pub climb_left : left < count
          climb_left = w.0

          pub climb_on : x < 256 → Climb l xs place (set tops left x) (left + 1) (x + 1)
          climb_on small =
              let room : left < length tops = omega (arith, w.0, q.past.highest.few, q.past.room) in
              let z : left + 1 - 1 ≡ left = omega arith in
              record {
                past =
                    record {
                      room = length-set tops left x ∙ q.past.room;
                      highest = tops_put p.tree q.past.highest w.1 room (over_spans x (omega arith) h inner);
                      fine = λ y v. elim (lt_or_le y x) [ inl u ↦ q.past.fine y u | inr u ↦ let d : y ≡ x = omega arith in rw d (over_paired x (omega arith) h inner ∙ w.2) ];
                    };
                some = omega arith;
                top = rw (z, get_or-set_same tops left x 0 room);
                from = omega (arith, q.from);
                to = omega arith;
              }

      -- A node from x on whose subtree starts before x.
      abbrev Early : ℕ → Type 0
      Early y = (x ≤ y) × (leaf l y < x)

      early : (y : ℕ) → Early y ⊎ (¬ Early y)
      early y =
          elim (lt_or_le y x) [
            | inl u ↦ inr (λ w. omega (arith, w))
            | inr u ↦ elim (lt_or_le (leaf l y) x) [ inl v ↦ inl (u, v) | inr v ↦ inr (λ w. omega (arith, w)) ]
          ]

      -- The climb has ended: the node is a leaf, or the next listed one.
      module _ {r : Bool} (g : Reaching l x next (x - 1) r) where
        pub climb_end : r ≡ false → Passed l xs place tops (Some count)
        climb_end e =
            fine
            (record {
              room = q.past.room;
              highest = tops_skip p.tree q.past.highest next q.to out;
              fine = λ z v. elim (lt_or_le z x) [ inl w ↦ q.past.fine z w | inr w ↦ paired_out l xs z (out z w v) ];
            })
          where
            out : (z : ℕ) → x ≤ z → z < next → spans l xs z ≡ false
            out z u v = spans_out z (omega (arith, g.none e z u v, q.from)) v

        pub climb_bare : r ≡ true → (x < next → x ≤ leaf l x) → Passed l xs place tops None
        climb_bare e stop = bare (found (g.some e))
          where
            behind : (z : ℕ) → Early z → z < next → x < z
            behind z h u =
                elim (lt_or_le x z) [
                  | inl v ↦ v
                  | inr v ↦ let d : z ≡ x = omega (arith, h) in absurd (omega (arith, rw d at h.1, stop (omega arith)))
                ]

            -- The lowest node that starts early has a last child outside the span.
            found : (y : ℕ) × (x ≤ y) × (y < next) × (leaf l y ≤ x - 1) → bordered l xs ≡ false
            found w =
                let k = least Early early w.0 (w.1, omega (arith, w.3, q.from)) in
                let z = k.0 in
                let here = k.2.holds in
                let most : z < next = omega (arith, w.2, k.1) in
                let more = behind z here most in
                let late : x ≤ leaf l (z - 1) =
                elim (lt_or_le (leaf l (z - 1)) x) [ inl u ↦ absurd (k.2.first (z - 1) (omega arith) (omega arith, u)) | inr u ↦ u ]
                in
                bare_at z (omega (arith, next_most))
                (over_paired z here.0 most here.1 ∙ walk_no p.tree walk_start (omega (arith, here)) (spans_out (z - 1) (omega (arith, q.from)) (omega arith)))

-- What is known after a listed node is passed.
module _ {l xs : List ℕ} {place : ℕ} {tops : List ℕ} where
  pub passed_bare : Passed l xs place tops None → bordered l xs ≡ false
  passed_bare (bare d) = d

  pub passed_on : {count : ℕ} → Passed l xs place tops (Some count) → Past l xs tops count (get_or xs (place + 1) 0)
  passed_on (fine q) = q
