-- Sessions on a text without structure: a seed on an added root that stands alone has no areas.
use mathlib.Core.Path.{◌≡◌, refl, sym, ap, subst, ◌∙◌}
use mathlib.Core.Logic.{◌⊎◌, inl, inr, ⊎_elim}
use mathlib.Core.List.{List, [], ◌∷◌}
use Prim.Native.Nat.{ℕ}
use native.Mathlib.Omega.{arith}
use lib.ListN.{length}
use Rattle.std.specs.Prelude.{Result, Ok, Err}
use Rattle.answer.specs.Refusal.{answer_in}
use Rattle.answer.specs.Answer.Said.{accepted}
use Rattle.answer.specs.Grounds.GivenIf.{fails}
use Rattle.answer.specs.Grounds.◌then◌.{later}
use Rattle.answer.specs.Answer.{Accepted}
use Rattle.answer.specs.declared.Refusal.{Refusal}
use Rattle.answer.proofs.Numbers.{said_injective}
use Rattle.write.specs.Wrote.{with_bytes}
use Rattle.tree.specs.Run.{Run}
use Rattle.tree.specs.Run.Run.{end}
use Rattle.tree.specs.Reading.{leaves_of, tree_of}
use Rattle.tree.specs.declared.Tree.{Tree}
use Rattle.seed.specs.Paths.{RootAlone}
use Rattle.seed.specs.Area.{Box}
use Rattle.seed.specs.AreaList.{bytes_of}
use Rattle.seed.proofs.RootAlone.{alone_no_areas}
use Rattle.area.specs.declared.Order.{Order}
use Rattle.area.specs.declared.Order.TheVariants.{RisingA}
use Rattle.table.specs.Rows.{Row}
use Rattle.table.specs.Table.{rows_of}
use Rattle.chain.specs.State.{State}
use Rattle.chain.specs.Acts.{list_areas, areas_of, areas_in}
use Rattle.chain.specs.View.{view}
use Rattle.chain.specs.Opening.{Outcome}
use Rattle.chain.specs.Looking.{Lists}
use Rattle.chain.specs.declared.Session.{Session}
use Rattle.chain.proofs.Judges.{Given}
use Rattle.chain.proofs.Looks.{row_seed, as_many, areas_put}
use Rattle.demand.specs.History.{Event, state_of}
use Rattle.demand.specs.Reached.{Reached}
use Rattle.demand.specs.Reached.Looked.{listed}
use Rattle.demand.specs.Demands.{OpenedOn}
use Rattle.demand.specs.Grounds.{GivenOut, CallSays}
use Rattle.demand.proofs.Histories.{reached_sound, by_history}
use Rattle.demand.proofs.Openings.{reached_trees}
use Rattle.demand.proofs.Areas.{row_areas}
use Rattle.demand.proofs.CallGrounds.{look_grounds}

-- The run without items spells the empty text, and its tree has one node.
one_leaf : {x : Tree} {r : Run} → x ≡ tree_of r → r ≡ end → RootAlone (leaves_of x)
one_leaf is empty = ap (λ (y : Tree). length (leaves_of y)) (is ∙ ap tree_of empty)

no_length : (xs : List Box) → length xs ≡ 0 → xs ≡ []
no_length [] e = refl
no_length (x ∷ xs) e = absurd (omega arith)

module _ {o : Outcome} {r p : Run} {rows : List Row} (on : OpenedOn o r p rows) (empty : (r ≡ end) ⊎ (p ≡ end)) {s : Session} {h : List Event} (w : Reached o s h) where
  alone : RootAlone (leaves_of s.q) ⊎ RootAlone (leaves_of s.t)
  alone = let trees = reached_trees on w in ⊎_elim (λ e. inl (one_leaf trees.0 e)) (λ e. inr (one_leaf trees.1 e)) empty

  -- Listing the areas of a number that was given out, in either order, is accepted on an output of any length, answers 0 and writes nothing.
  pub empty_no_areas : (order : Order) (k : ℕ) → GivenOut (state_of o.state h) k → (before after : List ℕ) (r : Result ℕ Refusal) → Lists (view s) order k before after r → (r ≡ Ok 0) × (after ≡ before)
  unfolding bytes_of
  empty_no_areas order k given before after r l =
      let sound = reached_sound w in
      let now : State = state_of o.state h in
      let number : GivenOut (view s) k = subst (λ (y : State). GivenOut y k) (sym (by_history w)) given in
      let out : Given (length (rows_of s.table)) k = record { low = number.0; high = number.1 } in
      let rising : areas_in RisingA (view s) k ≡ [] = alone_no_areas (row_seed s k sound out).pattern alone _ (row_areas s sound k out RisingA) in
      let zero : length (areas_of (view s) k) ≡ 0 = sym (as_many s k sound out RisingA) ∙ ap length rising in
      let none : areas_in order (view s) k ≡ [] = no_length (areas_in order (view s) k) (as_many s k sound out order ∙ zero) in
      let still : length (areas_of now k) ≡ 0 = ap (λ (y : State). length (areas_of y k)) (sym (by_history w)) ∙ zero in
      let says : CallSays now (list_areas order k (length before)) accepted = later (fails (λ n. n given)) (fails (λ short. omega (arith, still))) in
      let ok : answer_in r ≡ Accepted = said_injective (answer_in r) Accepted (sym ((look_grounds w (list_areas order k (length before)) (listed order k l)).decided says)) in
      put zero none r l ok
    where
      put : length (areas_of (view s) k) ≡ 0 → areas_in order (view s) k ≡ [] → (x : Result ℕ Refusal) → Lists (view s) order k before after x → answer_in x ≡ Accepted → (x ≡ Ok 0) × (after ≡ before)
      put zero none (Ok count) m ok =
          let listed = areas_put m in
          (ap Ok (listed.count_is ∙ zero), listed.output ∙ ap (λ (xs : List Box). with_bytes (bytes_of xs) before) none)
      put zero none (Err e) m ok = absurd (cc)
