-- What dealing answers and hands over, in each case of the code.
use mathlib.Core.Path.{◌≡◌, refl, sym, ap, ◌∙◌}
use mathlib.Core.List.{List}
use Prim.Native.Nat.{ℕ}
use native.Mathlib.Omega.{arith}
use lib.ListN.{length}
use Rattle.std.specs.Prelude.{Result, Ok, Err}
use Rattle.answer.specs.Answer.{unless, Answer, Accepted, Refused}
use Rattle.answer.specs.Refusal.{result_of, answer_in}
use Rattle.answer.specs.declared.Refusal.{Refusal}
use Rattle.tree.specs.Reading.{IsTree}
use Rattle.tree.specs.declared.Tree.{Tree}
use Rattle.table.specs.Table.{rows_of, no_seeds, Kept}
use Rattle.table.specs.declared.Table.{Table}
use Rattle.table.proofs.Tables.{laid_none, rows_none}
use Rattle.deck.specs.Deck as deck
use Rattle.deck.specs.Handed.{rows_in, Reads}
use Rattle.dealing.specs.Texts.{both_read, trees_of}
use Rattle.dealing.specs.Seeds.{seeds_answer}
use Rattle.dealing.specs.Deal.{deck_answer, DealsOn, Deal, deal_by, deal_answer, deal_of, Deals}
use Rattle.dealing.specs.declared.texts.TwoTrees.{TwoTrees}
use Rattle.dealing.proofs.Results.{refused_by, accepted_by, value_by}
use Rattle.dealing.proofs.Passing.{seeds_kept}

-- The table without seeds is kept on any two trees that were read.
pub kept_none : (q t : Tree) → IsTree q → IsTree t → Kept q t no_seeds
kept_none q t is_q is_t =
    record { is_q = is_q; is_t = is_t; laid = laid_none; each = λ i l. absurd (omega (arith, ap length rows_none, l)) }

-- ---- a deck on two trees

module _ (q t : Tree) (d : List ℕ) where
  abbrev seeds : Answer
  seeds = seeds_answer q t 1 (rows_in (deck.deck_reading d))

  by_layout : {x : Result Table Refusal} → Reads d x → deck_answer q t d ≡ unless (answer_in x) seeds
  unfolding deck_answer
  by_layout is_x = ap (λ (y : Answer). unless y seeds) (sym is_x.answers)

  pub on_layout : {refusal : Refusal} → Reads d (Err refusal) → DealsOn q t d (Err refusal)
  on_layout is_x = record { answers = sym (by_layout is_x); rows = tt; kept = tt }

  module _ {table : Table} (is_x : Reads d (Ok table)) where
    by_seeds : seeds_answer q t 1 (rows_of table) ≡ deck_answer q t d
    by_seeds = ap (seeds_answer q t 1) is_x.rows ∙ sym (by_layout is_x)

    pub on_seeds : {refusal : Refusal} → result_of (seeds_answer q t 1 (rows_of table)) (tt {0}) ≡ Err refusal → DealsOn q t d (Err refusal)
    on_seeds f = record { answers = sym (refused_by _ tt f) ∙ by_seeds; rows = tt; kept = tt }

    pub on_accepted : IsTree q → IsTree t → {u : Unit {0}} → result_of (seeds_answer q t 1 (rows_of table)) (tt {0}) ≡ Ok u → DealsOn q t d (Ok table)
    on_accepted is_q is_t f =
        let ok = accepted_by _ tt f in
        record {
          answers = sym ok ∙ by_seeds;
          rows = is_x.rows;
          kept = seeds_kept q t table is_q is_t is_x.laid ok;
        }

-- ---- two texts and a deck

module _ (q t d : List ℕ) where
  abbrev whole : Deal
  whole = record { answer = Accepted; q = (both_read q t).q; t = (both_read q t).t; rows = rows_in (deck.deck_reading d) }

  -- What is dealt answers as it is said to.
  deals_refused : {refusal : Refusal} → deal_answer q t d ≡ Refused refusal.ground refusal.place → Deals q t d (Err refusal)
  unfolding deal_of
  deals_refused e = record { answers = ap (λ (a : Answer). (deal_by a whole).answer) (sym e); tree_q = tt; tree_t = tt; rows = tt; kept = tt }

  pub deals_texts : {refusal : Refusal} → result_of (both_read q t).answer (trees_of (both_read q t)) ≡ Err refusal → Deals q t d (Err refusal)
  unfolding deal_answer
  deals_texts f = deals_refused (ap (λ (a : Answer). unless a (deck_answer (both_read q t).q (both_read q t).t d)) (refused_by _ _ f))

  module _ {trees : TwoTrees} (f : result_of (both_read q t).answer (trees_of (both_read q t)) ≡ Ok trees) where
    are : trees_of (both_read q t) ≡ trees
    are = value_by (both_read q t).answer _ f

    by_texts : deal_answer q t d ≡ deck_answer trees.q trees.t d
    unfolding deal_answer
    by_texts =
        ap (λ (a : Answer). unless a (deck_answer (both_read q t).q (both_read q t).t d)) (accepted_by _ _ f)
        ∙ ap (λ (x : TwoTrees). deck_answer x.q x.t d) are

    pub deals_deck : {refusal : Refusal} → DealsOn trees.q trees.t d (Err refusal) → Deals q t d (Err refusal)
    deals_deck on = deals_refused (by_texts ∙ sym on.answers)

    pub deals_accepted : {table : Table} → DealsOn trees.q trees.t d (Ok table) → Deals q t d (Ok (record { q = trees.q; t = trees.t; table = table }))
    unfolding deal_of
    deals_accepted on =
        let ok : deal_answer q t d ≡ Accepted = by_texts ∙ sym on.answers in
        rw ok
        (record {
          answers = refl;
          tree_q = sym (ap (λ (x : TwoTrees). x.q) are);
          tree_t = sym (ap (λ (x : TwoTrees). x.t) are);
          rows = on.rows;
          kept = on.kept;
        })
