-- What a report answers and leaves, in each case of the code.
use mathlib.Core.Path.{◌≡◌, refl, sym, ap, ap₂, subst, ◌∙◌}
use mathlib.Core.Bool.{Bool, true, false, cond}
use mathlib.Core.List.{List}
use Prim.Native.Nat.{ℕ, ◌≤◌, ◌<◌}
use native.Mathlib.Nat.{zero-add}
use native.Mathlib.Omega.{arith}
use lib.ListN.{length, take, drop, replicate, length-append}
use lib.Seq.{take_at}
use lib.Dec.{ltb}
use lib.IntN.{pos}
use borrow.Author.Tests.{lt-ltb, le-ltb}
use Rattle.std.specs.Prelude.{Result, Ok, Err}
use Rattle.answer.specs.Answer.{said, Answer, Accepted, Refused}
use Rattle.answer.specs.Refusal.{refusal_at, result_of}
use Rattle.answer.specs.declared.Refusal.{Refusal}
use Rattle.answer.specs.declared.Ground.TheVariants.{ScratchShort}
use Rattle.answer.specs.declared.Place.TheVariants.{Nothing}
use Rattle.write.specs.Puts.{Puts, Room}
use Rattle.write.specs.Wrote.{with_bytes}
use Rattle.write.proofs.Puts.{puts_as, puts_output, puts_place}
use Rattle.write.proofs.Sets.{sets_first}
use Rattle.seed.proofs.Tabs.{length_tab}
use Rattle.decimal.specs.Score.{beyond}
use Rattle.decimal.proofs.Signs.{total_within}
use Rattle.best.specs.Best.{scratch_needed}
use Rattle.best.specs.declared.Best.{Best}
use Rattle.chain.specs.Acts.{best_chain, grounds}
use Rattle.chain.specs.State.{State}
use Rattle.chain.specs.View.{view}
use Rattle.chain.specs.Opening.{deck_opening, Opens}
use Rattle.chain.specs.Looking.{best_in, Chains}
use Rattle.chain.specs.declared.Session.{Session}
use Rattle.chain.proofs.Looks.{best_most}
use Rattle.lines.specs.Lines.{score_line, result_lines, refusal_line, lines_room, printed}
use Rattle.lines.specs.declared.Lines.{Lines}
use Rattle.lines.proofs.Lengths.{length_refusal, length_result}
use Rattle.lines.proofs.Printed.{printed_fits, printed_bytes}
use Rattle.report.specs.Input.{text_q, text_t, deck_bytes}
use Rattle.report.specs.inner.Steps.{ChainPrinted}
use Rattle.report.specs.Report.{outcome_of, chain_lines, lines_by, lines_of, report_of, zeroed_by, scratch_left, Reports, memory_short, ReportPut}

-- The session is opened on the three parts.
pub opens_input : (input : List ℕ) {q t d : List ℕ} {a : Answer} {s : Session} → q ≡ text_q input → t ≡ text_t input → d ≡ deck_bytes input → Opens (deck_opening q t d) a s → Opens (outcome_of input) a s
unfolding outcome_of
opens_input input is_q is_t is_d o = rw (is_q, is_t, is_d) at o

-- The total of an accepted input is one that the writer of texts takes, so that its line has the text that is written for it.
pub printed_total : (input : List ℕ) {a : Answer} {s : Session} → Opens (outcome_of input) a s → beyond (pos (best_in (outcome_of input).state).total) ≡ false
printed_total input {a} {s} o = total_within (best_in (outcome_of input).state).total (omega (arith, best_most s o.sound, ap (λ (x : State). (best_in x).total) o.leaves))

-- A chain has a flag for each of 64 numbers, so that the room holds its lines, as it does those of every report.
chain_short : (s : State) → length (chain_lines s) ≤ lines_room
chain_short s = omega (arith, length_result (best_in s).total (best_in s).chain (length_tab 64 _))

pub lines_short : (input : List ℕ) → length (lines_of input) ≤ lines_room
unfolding lines_of
lines_short input = go (outcome_of input).answer
  where
    go : (x : Answer) → length (lines_by x (outcome_of input).state) ≤ lines_room
    go Accepted = chain_short (outcome_of input).state
    go (Refused g p) = omega (arith, length_refusal (said (Refused g p)))

-- No report is empty, so that 0 bytes written tell of short memory.
pub lines_some : (input : List ℕ) → 0 < length (lines_of input)
unfolding lines_of result_lines score_line refusal_line
lines_some input = go (outcome_of input).answer
  where
    go : (x : Answer) → 0 < length (lines_by x (outcome_of input).state)
    go Accepted = omega arith
    go (Refused g p) = omega arith

-- What is made of a best chain is answered like it, and a refusal is handed on.
module _ {s : State} {scratch left : List ℕ} {r : Result Best Refusal} (c : Chains s scratch left r) where
  pub chain_printed : {b : Best} {lines : Lines} → r ≡ Ok b → lines ≡ printed (result_lines b.total b.chain) → ChainPrinted s scratch left (Ok lines)
  chain_printed {b} {lines} ok is = record { prints = go (grounds s (best_chain (length scratch))) (sym ok ∙ c.answers); zeros = c.scratch }
    where
      go : (a : Answer) → Ok b ≡ result_of a (best_in s) → Ok lines ≡ result_of a (printed (chain_lines s))
      go Accepted e =
          let same : b ≡ best_in s = cc in
          ap Ok (is ∙ ap (λ (x : Best). printed (result_lines x.total x.chain)) same)
      go (Refused g p) e = cc

  pub chain_refused : {d : Refusal} → r ≡ Err d → ChainPrinted s scratch left (Err d)
  chain_refused {d} refused = record { prints = go (grounds s (best_chain (length scratch))) (sym refused ∙ c.answers); zeros = c.scratch }
    where
      go : (a : Answer) → Err d ≡ result_of a (best_in s) → Err d ≡ result_of a (printed (chain_lines s))
      go Accepted e = cc
      go (Refused g p) e = cc

-- A report, by whether the scratch is too short, and by what the opening answered.
pub reports_short : (input scratch : List ℕ) → ltb (length scratch) scratch_needed ≡ true → Reports input scratch scratch (Err (refusal_at ScratchShort Nothing))
unfolding report_of scratch_left
reports_short input scratch short = record { answers = rw short; leaves_scratch = rw short }

module _ (input scratch : List ℕ) {left : List ℕ} {r : Result Lines Refusal} (long : ltb (length scratch) scratch_needed ≡ false) {a : Answer} {s : Session} (o : Opens (outcome_of input) a s) where
  reports_by : r ≡ Ok (printed (lines_of input)) → left ≡ zeroed_by (outcome_of input).answer scratch → Reports input scratch left r
  unfolding report_of scratch_left
  reports_by is e = record { answers = is ∙ rw long; leaves_scratch = e ∙ rw long }

  pub reports_chain : a ≡ Accepted → ChainPrinted (view s) scratch left r → Reports input scratch left r
  unfolding lines_of grounds
  reports_chain ok put =
      let yes : Accepted ≡ (outcome_of input).answer = sym ok ∙ o.answers in
      let of_input : chain_lines (view s) ≡ lines_of input = ap chain_lines o.leaves ∙ ap (λ (x : Answer). lines_by x (outcome_of input).state) yes in
      let prints : r ≡ Ok (printed (chain_lines (view s))) = rw long at put.prints in
      let zeros : left ≡ replicate (length scratch) 0 = rw long at put.zeros in
      reports_by (prints ∙ ap (λ (l : List ℕ). Ok (printed l)) of_input) (zeros ∙ ap (λ (x : Answer). zeroed_by x scratch) yes)

  pub reports_refusal : {lines : Lines} → (a ≡ Accepted → ⊥) → r ≡ Ok lines → lines ≡ printed (refusal_line (said a)) → left ≡ scratch → Reports input scratch left r
  unfolding lines_of
  reports_refusal denied put is same = go (outcome_of input).answer o.answers refl
    where
      go : (x : Answer) → a ≡ x → x ≡ (outcome_of input).answer → Reports input scratch left r
      go Accepted f e = absurd (denied f)
      go (Refused g p) f e =
          reports_by
          (put ∙ ap Ok (is ∙ ap (λ (y : Answer). printed (refusal_line (said y))) f ∙ ap (λ (y : Answer). printed (lines_by y (outcome_of input).state)) e))
          (same ∙ ap (λ (y : Answer). zeroed_by y scratch) e)

-- The lines of a report are those of its input, and it was not too short of scratch.
module _ {input scratch left : List ℕ} {lines : Lines} (w : Reports input scratch left (Ok lines)) where
  reported : (ltb (length scratch) scratch_needed ≡ false) × (lines ≡ printed (lines_of input))
  unfolding report_of
  reported = go (ltb (length scratch) scratch_needed) refl w.answers
    where
      go : (b : Bool) → ltb (length scratch) scratch_needed ≡ b → Ok lines ≡ cond b (Err (refusal_at ScratchShort Nothing)) (Ok (printed (lines_of input))) → (ltb (length scratch) scratch_needed ≡ false) × (lines ≡ printed (lines_of input))
      go true e f = cc
      go false e f = (e, cc)

  pub answered_fits : lines.length ≤ lines_room
  answered_fits = printed_fits (lines_of input) reported.1 (lines_short input)

  -- They are put to an output that holds every report.
  pub report_put : {out after : List ℕ} {n : ℕ} → lines_room ≤ length out → Puts (take lines.length lines.bytes) 0 out after n → ReportPut input scratch left out after n
  unfolding memory_short
  report_put {out} {after} {n} holds put =
      let room : Room (lines_of input) 0 out = record { fits = omega (arith, lines_short input) } in
      let same : Puts (lines_of input) 0 out after n = puts_as (printed_bytes (lines_of input) reported.1) put in
      let no = le-ltb (length out) lines_room holds in
      record {
        count = puts_place room same ∙ zero-add (length (lines_of input)) ∙ rw (no, reported.0);
        leaves_scratch = w.leaves_scratch ∙ rw (no, reported.0);
        output_left = puts_output room same ∙ sets_first out (lines_of input) (omega (arith, lines_short input)) ∙ rw (no, reported.0);
      }

-- A refused one is short of scratch, and leaves the output as it was.
pub report_denied : {input scratch left : List ℕ} {d : Refusal} (out : List ℕ) → Reports input scratch left (Err d) → lines_room ≤ length out → ReportPut input scratch left out out 0
unfolding report_of scratch_left memory_short
report_denied {input} {scratch} {left} {d} out w holds = go (ltb (length scratch) scratch_needed) refl w.answers
  where
    go : (b : Bool) → ltb (length scratch) scratch_needed ≡ b → Err d ≡ cond b (Err (refusal_at ScratchShort Nothing)) (Ok (printed (lines_of input))) → ReportPut input scratch left out out 0
    go true e f =
        let no = le-ltb (length out) lines_room holds in
        record { count = rw (no, e); leaves_scratch = w.leaves_scratch ∙ rw (no, e); output_left = rw (no, e) }
    go false e f = cc

-- An output that does not hold every report is left as it was, and so is the scratch.
pub report_not_put : (input scratch out : List ℕ) → length out < lines_room → ReportPut input scratch scratch out out 0
unfolding memory_short
report_not_put input scratch out few =
    let yes = lt-ltb (length out) lines_room few in
    record { count = rw yes; leaves_scratch = rw yes; output_left = rw yes }

-- With memory enough the lines stand at the start of the output, as many bytes as were answered.
module _ {input scratch left out after : List ℕ} {n : ℕ} (put : ReportPut input scratch left out after n) (long : scratch_needed ≤ length scratch) (holds : lines_room ≤ length out) where
  enough : memory_short scratch out ≡ false
  unfolding memory_short
  enough = rw (le-ltb (length out) lines_room holds, le-ltb (length scratch) scratch_needed long)

  all : n ≡ length (lines_of input)
  all = put.count ∙ rw enough

  start : after ≡ with_bytes (lines_of input) out
  start = put.output_left ∙ rw enough

  pub put_within : n ≤ length after
  put_within = omega (arith, all, ap length start, length-append (lines_of input) (drop (length (lines_of input)) out))

  pub put_front : take n after ≡ lines_of input
  put_front = ap₂ take all start ∙ take_at (lines_of input) (drop (length (lines_of input)) out) (length (lines_of input)) refl
