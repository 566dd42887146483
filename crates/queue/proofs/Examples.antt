-- Both bounds on waiting are reached.
use mathlib.Core.Path.{◌≡◌, refl}
use mathlib.Core.List.{[], ◌∷◌}
use Prim.Native.Nat.{◌+◌, ◌*◌, ◌/◌}
use Rattle.queue.specs.Jobs.{offer_answer, after_offer, last_three, passes_urgent, turn_of, after_turn}
use Rattle.queue.specs.Calls.{state_after, state_from_start, turns_in, taken_in}
use Rattle.queue.specs.Waits.{TakenAt}
use Rattle.queue.specs.Examples.{job_of, three_of_each, eleven_turns, three_in_row, turns_of}
use Rattle.queue.specs.declared.Kind.TheVariants.{Urgent, Ordinary}

-- With two ordinary jobs before it an ordinary one is taken by the twelfth turn.
pub ordinary_exactly : ((state_from_start three_of_each).ordinary ≡ job_of 1 ∷ job_of 2 ∷ job_of 3 ∷ []) × TakenAt (4 * (2 + 1)) Ordinary (job_of 1 ∷ job_of 2 ∷ []) (job_of 3) three_of_each eleven_turns
unfolding offer_answer after_offer last_three passes_urgent turn_of after_turn state_after state_from_start turns_in taken_in
ordinary_exactly = (refl, record { turns = refl; ahead_first = refl; taken = refl })

-- With three urgent jobs before it an urgent one is taken by the sixth turn.
pub urgent_exactly : ((state_from_start three_in_row).urgent ≡ job_of 6 ∷ job_of 7 ∷ job_of 8 ∷ job_of 9 ∷ []) × TakenAt (3 + 2 + 3 / 3) Urgent (job_of 6 ∷ job_of 7 ∷ job_of 8 ∷ []) (job_of 9) three_in_row (turns_of 5)
unfolding offer_answer after_offer last_three passes_urgent turn_of after_turn state_after state_from_start turns_in taken_in
urgent_exactly = (refl, record { turns = refl; ahead_first = refl; taken = refl })
