-- What an opening answers and hands over, by what reading and dealing answer.
use Rattle.std.proofs.Common.{◌≡◌, refl, ap, subst, ◌∙◌, List, [], ℕ, Ok, Err, arith}
use Rattle.answer.specs.Refusal.{result_of}
use Rattle.answer.specs.Answer.{Answer, Accepted, Refused}
use Rattle.answer.specs.declared.Refusal.{Refusal}
use Rattle.answer.proofs.Denied.{clash}
use Rattle.tree.specs.Reading.{Reading, reading, tree_of, single, IsTree}
use Rattle.tree.specs.Reading.Reading.{text_accepted, text_refused}
use Rattle.table.specs.Table.{rows_of}
use Rattle.dealing.specs.Texts.{both_of, both_read, trees_of}
use Rattle.dealing.specs.declared.texts.TwoTrees.{TwoTrees}
use Rattle.dealing.specs.Deal.{Deal, deal_by, deal_answer, deal_of, Deals}
use Rattle.dealing.specs.declared.Dealt.{Dealt}
use Rattle.dealing.proofs.BothRead.{both_trees}
use Rattle.chain.specs.Opening.{Outcome, start_with, opening, deck_opening, Opens, RefusedWith}
use Rattle.chain.specs.View.{view, Sound}
use Rattle.chain.specs.declared.Session.{Session}
use Rattle.chain.specs.declared.RefusedOpening.{RefusedOpening}

-- The outcome of a refusal: the state of the texts `.` and `.`.
abbrev pub refused_outcome : Answer → Outcome
refused_outcome a = record { answer = a; state = start_with (tree_of single) (tree_of single) [] }

pub opens_refused : {o : Outcome} {x : Refusal} {e : RefusedOpening} → refused_outcome (Refused x.ground x.place) ≡ o → RefusedWith x e → Opens o (Refused e.refusal.ground e.refusal.place) e.session
opens_refused {o} {x} {e} f w =
    record {
      answers = ap (λ (y : Refusal). Refused y.ground y.place) w.same ∙ ap (λ (y : Outcome). y.answer) f;
      leaves = w.leaves ∙ ap (λ (y : Outcome). y.state) f;
      sound = w.sound;
    }

-- The tree of the text `.` is one that a reading hands over.
pub single_is : IsTree (tree_of single)
single_is = record { run = single; few = omega arith; is = refl }

-- ---- two texts

module _ (q t : List ℕ) where
  pub texts_refused : {x : Refusal} → ◌≡◌ (Err x) (result_of (both_read q t).answer (trees_of (both_read q t))) → refused_outcome (Refused x.ground x.place) ≡ opening q t
  unfolding both_read opening
  texts_refused {x} e = go (reading q) (reading t) e
    where
      outcome : Reading → Reading → Outcome
      outcome u v = record { answer = (both_of u v).answer; state = start_with (both_of u v).q (both_of u v).t [] }

      go : (u v : Reading) → ◌≡◌ (Err x) (result_of (both_of u v).answer (trees_of (both_of u v))) → refused_outcome (Refused x.ground x.place) ≡ outcome u v
      go (text_refused g k) v f = cc
      go (text_accepted r) (text_refused g k) f = cc
      go (text_accepted r) (text_accepted p) f = clash (cc)

  module _ {both : TwoTrees} (e : ◌≡◌ (Ok both) (result_of (both_read q t).answer (trees_of (both_read q t)))) where
    pub texts_trees : (IsTree both.q) × (IsTree both.t)
    texts_trees = go (both_read q t).answer e
      where
        go : (a : Answer) → Ok both ≡ result_of a (trees_of (both_read q t)) → (IsTree both.q) × (IsTree both.t)
        go Accepted f = let same : trees_of (both_read q t) ≡ both = cc in subst (λ (b : TwoTrees). (IsTree b.q) × (IsTree b.t)) same (both_trees q t)
        go (Refused g p) f = clash (cc)

    pub texts_accepted : ◌≡◌ {A = Outcome} (record { answer = Accepted; state = start_with both.q both.t [] }) (opening q t)
    unfolding opening
    texts_accepted = go (both_read q t).answer e
      where
        go : (a : Answer) → Ok both ≡ result_of a (trees_of (both_read q t)) → ◌≡◌ {A = Outcome} (record { answer = Accepted; state = start_with both.q both.t [] }) (record { answer = a; state = start_with (both_read q t).q (both_read q t).t [] })
        go Accepted f = let same : both ≡ trees_of (both_read q t) = cc in ap (λ (b : TwoTrees). record { answer = Accepted; state = start_with b.q b.t [] }) same
        go (Refused g p) f = clash (cc)

-- ---- two texts and a deck

module _ (q t d : List ℕ) where
  pub deck_refused : {x : Refusal} → Deals q t d (Err x) → refused_outcome (Refused x.ground x.place) ≡ deck_opening q t d
  unfolding deck_opening deal_of
  deck_refused {x} w = go (deal_answer q t d) _ refl w.answers
    where
      outcome : Deal → Outcome
      outcome o = record { answer = o.answer; state = start_with o.q o.t o.rows }

      go : (a : Answer) (dealt : Deal) → dealt.answer ≡ Accepted → Refused x.ground x.place ≡ (deal_by a dealt).answer → refused_outcome (Refused x.ground x.place) ≡ outcome (deal_by a dealt)
      go Accepted dealt ok f = clash (cc)
      go (Refused g p) dealt ok f = cc

  pub deck_accepted : {dealt : Dealt} → Deals q t d (Ok dealt) → {s : Session} → view s ≡ start_with dealt.q dealt.t (rows_of dealt.table) → Sound s → Opens (deck_opening q t d) Accepted s
  unfolding deck_opening
  deck_accepted {dealt} w v h = record { answers = w.answers; leaves = v ∙ rw (w.tree_q, w.tree_t, w.rows); sound = h }
