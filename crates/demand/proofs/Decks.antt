-- Demand 2 of the session: what is written of a deck that was opened is its plain form, and the deck that a session writes is opened, on the
-- same texts, with its present rows by the history.
use mathlib.Core.Path.{◌≡◌, refl, sym, ap, ap₂, subst, ◌∙◌}
use mathlib.Core.Bool.{true}
use mathlib.Core.List.{List, [], ◌∷◌, flatten}
use Prim.Native.Nat.{ℕ, suc, ◌+◌, ◌≤◌, ◌<◌}
use native.Mathlib.Omega.{arith}
use lib.ListN.{length, take, length-append}
use lib.IntN.{ℤ, pos, negsuc}
use lib.Signed.{mag}
use Rattle.answer.specs.Answer.{Answer, Accepted}
use Rattle.std.specs.Prelude.{Ok}
use Rattle.std.proofs.lemmas.Bool.{cond_both}
use Rattle.write.specs.Wrote.{Wrote}
use Rattle.tree.specs.Run.{Run}
use Rattle.tree.specs.Nested.{Nested}
use Rattle.tree.specs.Reading.{Spells, leaves_of, tree_of}
use Rattle.tree.specs.declared.Tree.{Tree}
use Rattle.tree.proofs.Trees.{tree_nested}
use Rattle.judge.proofs.Grounds.{accepts_seeds}
use Rattle.table.specs.Rows.{Row, pairs_in_all, present_rows, in_range, AllHold}
use Rattle.table.specs.Table.{rows_of}
use Rattle.table.proofs.Tables.{rows_length, rows_count}
use Rattle.table.proofs.Ranges.{range_size}
use Rattle.deck.specs.Deck as deck
use Rattle.deck.specs.Deck.{chains_of}
use Rattle.deck.specs.Handed.{rows_in}
use Rattle.deck.proofs.Accepted.{reading_present}
use Rattle.plain.specs.Plain.{plain_of, All, RowInLimits}
use Rattle.plain.proofs.RoundTrip.{read_plain}
use Rattle.dealing.specs.Texts.{both_read}
use Rattle.dealing.specs.Seeds.{seeds_answer}
use Rattle.dealing.specs.Deal.{deck_answer, deal_answer, deal_of}
use Rattle.chain.specs.State.{State}
use Rattle.chain.specs.Acts.{deck_of}
use Rattle.chain.specs.View.{view, Sound}
use Rattle.chain.specs.Opening.{Outcome, start_with, deck_opening, Opens}
use Rattle.chain.specs.Looking.{Writes}
use Rattle.chain.specs.declared.Session.{Session}
use Rattle.demand.specs.History.{Event, state_of}
use Rattle.demand.specs.Reached.{Reached}
use Rattle.demand.specs.Reached.Reached.{begun}
use Rattle.demand.specs.Demands.{OpenedOn, table_by}
use Rattle.demand.proofs.Histories.{reached_sound, by_history}
use Rattle.chain.proofs.Looks.{deck_put}
use Rattle.write.proofs.Wrote.{wrote_front}
use Rattle.demand.proofs.Openings.{both_spelled, deck_state, reached_state, reached_trees}

-- A score in range is stored as it is.
range_small : (z : ℤ) → in_range z ≡ true → mag z < 2147483648
range_small (pos n) e = omega (arith, range_size (pos n) e)
range_small (negsuc n) e = omega (arith, range_size (negsuc n) e)

-- The present ones of rows that hold seeds can be written, and are judged seeds.
module _ (q t : Tree) (tree_q : Nested (leaves_of q)) (tree_t : Nested (leaves_of t)) where
  present_small : (rows : List Row) → AllHold q t rows → All RowInLimits (present_rows rows)
  unfolding present_rows
  present_small [] h = tt
  present_small (r ∷ rs) h =
      let first = h 0 (omega arith) in
      let rest = present_small rs (λ i l. h (suc i) (omega arith)) in
      cond_both r.present _ _ (All RowInLimits) (λ e. (record { some = first.seed.pattern.some; score = range_small r.score first.ranged; present = e }, rest)) (λ e. rest)

  present_judged : (rows : List Row) → AllHold q t rows → (n : ℕ) → seeds_answer q t n (present_rows rows) ≡ Accepted
  unfolding present_rows seeds_answer
  present_judged [] h n = refl
  present_judged (r ∷ rs) h n =
      let first = h 0 (omega arith) in
      let rest = present_judged rs (λ i l. h (suc i) (omega arith)) in
      cond_both r.present _ _ (λ rows. seeds_answer q t n rows ≡ Accepted)
      (λ e. rw (first.ranged, (accepts_seeds q t tree_q tree_t r.pairs n first.seed.pattern.some).1 first.seed) (rest (suc n)))
      (λ e. rest n)

present_few : (rows : List Row) → length (present_rows rows) ≤ length rows
unfolding present_rows
present_few [] = omega arith
present_few (r ∷ rs) = cond_both r.present (r ∷ present_rows rs) (present_rows rs) (λ rows. length rows ≤ length (r ∷ rs)) (λ e. omega (arith, present_few rs)) (λ e. omega (arith, present_few rs))

present_pairs : (rows : List Row) → length (flatten (chains_of (present_rows rows))) ≤ pairs_in_all rows
unfolding present_rows pairs_in_all flatten
present_pairs [] = omega arith
present_pairs (r ∷ rs) =
    cond_both r.present (r ∷ present_rows rs) (present_rows rs) (λ rows. length (flatten (chains_of rows)) ≤ length r.pairs + pairs_in_all rs)
    (λ e. omega (arith, present_pairs rs, length-append r.pairs (flatten (chains_of (present_rows rs)))))
    (λ e. omega (arith, present_pairs rs))

module _ (s : Session) (h : Sound s) where
  tree_q : Nested (leaves_of s.q)
  tree_q = tree_nested s.q h.kept.is_q

  tree_t : Nested (leaves_of s.t)
  tree_t = tree_nested s.t h.kept.is_t

  deck_read : deck.deck_reading (plain_of (present_rows (rows_of s.table))) ≡ deck.DeckReading.deck_accepted (present_rows (rows_of s.table))
  deck_read =
      let rows : List Row = rows_of s.table in
      read_plain (present_rows rows)
      record {
        seeds = omega (arith, present_few rows, rows_length s.table, h.kept.laid.few);
        pairs = omega (arith, present_pairs rows, rows_count s.table h.kept.laid, h.kept.laid.fit);
        each = present_small s.q s.t tree_q tree_t rows h.kept.each;
      }

  -- Opening on the texts of the session's trees and its deck hands over the present seeds, numbered from 1 in order.
  deck_reopened : (q t : List ℕ) → both_read q t ≡ record { answer = Accepted; q = s.q; t = s.t } → deck_opening q t (plain_of (present_rows (rows_of s.table))) ≡ record { answer = Accepted; state = start_with s.q s.t (present_rows (rows_of s.table)) }
  unfolding deck_opening deal_of deal_answer deck_answer
  deck_reopened q t e = rw (e, deck_read, present_judged s.q s.t tree_q tree_t (rows_of s.table) h.kept.each 1)

-- What is written after any list of calls: the plain form of the rows that are present by the history.
module _ {o : Outcome} {s : Session} {h : List Event} (reached : Reached o s h) {before after : List ℕ} {size : ℕ} (x : Writes (view s) before after (Ok size)) where
  pub deck_by_history : Wrote (plain_of (present_rows (state_of o.state h).rows)) before after (Ok size)
  unfolding deck_of
  deck_by_history = subst (λ (y : State). Wrote (plain_of (present_rows y.rows)) before after (Ok size)) (by_history reached) (deck_put x).wrote

  -- It stands at the start of the output.
  deck_written : take size after ≡ plain_of (present_rows (view s).rows)
  unfolding deck_of
  deck_written = let put = deck_put x in wrote_front (deck_of (view s)) before after (Ok size) refl put.wrote

  -- Opened on the same texts, it gives the rows that were present, numbered from 1 in order.
  pub written_then_opened : {r p : Run} {rows : List Row} → OpenedOn o r p rows → (q t : List ℕ) → Spells r q → Spells p t
      → {a : Answer} {again : Session} → Opens (deck_opening q t (take size after)) a again
      → (a ≡ Accepted) × (view again ≡ start_with (tree_of r) (tree_of p) (present_rows (table_by r p rows h)))
  written_then_opened {r} {p} {rows} on q t spells-q spells-t {a} {again} opens =
      let trees = reached_trees on reached in
      let both : both_read q t ≡ record { answer = Accepted; q = s.q; t = s.t } = both_spelled spells-q spells-t ∙ ap₂ (λ (y z : Tree). record { answer = Accepted; q = y; t = z }) (sym trees.0) (sym trees.1) in
      let outcome = ap (deck_opening q t) deck_written ∙ deck_reopened s (reached_sound reached) q t both in (
        opens.answers ∙ ap (λ (y : Outcome). y.answer) outcome,
        opens.leaves ∙ ap (λ (y : Outcome). y.state) outcome ∙ ap₂ (λ (y z : Tree). start_with y z (present_rows (view s).rows)) trees.0 trees.1 ∙ ap (λ (y : State). start_with (tree_of r) (tree_of p) (present_rows y.rows)) (reached_state on reached),
      )

-- An accepted deck that is opened and written is put in plain form.
pub opened_then_written : (q t d : List ℕ) {s : Session} → Opens (deck_opening q t d) Accepted s → {before after : List ℕ} {size : ℕ} → Writes (view s) before after (Ok size) → Wrote (plain_of (rows_in (deck.deck_reading d))) before after (Ok size)
unfolding state_of
opened_then_written q t d {s} o {before} {after} {size} x =
    subst (λ (rows : List Row). Wrote (plain_of rows) before after (Ok size))
    (ap (λ (y : State). present_rows y.rows) (deck_state q t d (sym o.answers)) ∙ reading_present d)
    (deck_by_history (begun (Ok s) o) x)
