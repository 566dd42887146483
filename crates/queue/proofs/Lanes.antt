-- A lane stays one as a job comes behind the others, and as the oldest goes.
use Rattle.std.proofs.Common.{◌≡◌, refl, sym, ◌∙◌, ap, List, [], ◌∷◌, ◌++◌, ℕ, ◌-◌, ◌+◌, ◌≤◌, ◌<◌, ◌≢◌, zero, suc, arith, length, take, drop, set, get_or, replicate, Some}
use Rattle.std.specs.List.{copy_within}
use Rattle.std.proofs.lemmas.List.{take-append-le, drop-append-le, drop-drop, drop-set-lt, drop-take, drop-replicate, replicate_more, length-drop, length-set, length-append, set_at, length-take-le, take_all, drop_all, drop_more}
use Rattle.queue.specs.Jobs.{oldest}
use Rattle.queue.specs.Lanes.{no_job, jobs_of, IsLane}
use Rattle.queue.specs.declared.Job.{Job}
use Rattle.queue.specs.declared.Kind.{Kind}
use Rattle.queue.specs.declared.lane.Lane.TheInside.{Inside}

module _ {a : Inside} (i : IsLane a) where
  pub pushed : (job : Job) → a.count < 16 → IsLane (record { jobs = set a.jobs a.count job; count = a.count + 1 })
  pushed job room =
      record {
        places = length-set a.jobs a.count job ∙ i.places;
        few = omega (arith, length-set a.jobs a.count job, i.places, room);
        behind = drop-set-lt (a.count + 1) a.jobs a.count job (omega arith) ∙ sym (drop-drop 1 a.count a.jobs) ∙ ap (drop 1) i.behind ∙ drop-replicate 1 (16 - a.count) no_job ∙ ap (λ n. replicate n no_job) (omega (arith, room));
      }

  pub room_left : {jobs : List Job} → jobs_of a ≡ jobs → length jobs < 16 → a.count < 16
  room_left e room = omega (arith, sym (length-take-le a.count a.jobs i.few) ∙ ap length e, room)

-- The places after the oldest job went: the others one place nearer, and none in the last.
abbrev pub without_first : List Job → List Job
without_first jobs = drop 1 jobs ++ no_job ∷ []

module _ {a : Inside} (i : IsLane a) where
  pub moved : set (copy_within a.jobs 1 (length a.jobs) 0) 15 no_job ≡ without_first a.jobs
  moved =
      rw (i.places, take_all 15 (drop 1 a.jobs) (omega (arith, length-drop 1 a.jobs, i.places)), drop_more a.jobs 15 no_job (omega (arith, i.places)), drop_all 16 a.jobs (omega (arith, i.places)))
      (set_at (drop 1 a.jobs) (get_or a.jobs 15 no_job) [] no_job 15 (length-drop 1 a.jobs ∙ omega (arith, i.places)))

module _ {a : Inside} (i : IsLane a) (some : a.count ≢ 0) where
  rest : length (drop 1 a.jobs) ≡ 15
  rest = length-drop 1 a.jobs ∙ omega (arith, i.places)

  pub others : take (a.count - 1) (without_first a.jobs) ≡ drop 1 (jobs_of a)
  others =
      take-append-le (a.count - 1) (drop 1 a.jobs) (no_job ∷ []) (omega (arith, rest, i.few, i.places))
      ∙ sym (drop-take 1 (a.count - 1) a.jobs)
      ∙ ap (λ n. drop 1 (take n a.jobs)) (omega (arith, some))

  pub taken_from : IsLane (record { jobs = without_first a.jobs; count = a.count - 1 })
  taken_from =
      record {
        places = length-append (drop 1 a.jobs) (no_job ∷ []) ∙ omega (arith, rest);
        few = omega (arith, length-append (drop 1 a.jobs) (no_job ∷ []), rest, i.few, i.places);
        behind = drop-append-le (a.count - 1) (drop 1 a.jobs) (no_job ∷ []) (omega (arith, rest, i.few, i.places))
            ∙ ap (λ xs. xs ++ no_job ∷ []) (drop-drop (a.count - 1) 1 a.jobs ∙ ap (λ n. drop n a.jobs) (omega (arith, some)) ∙ i.behind)
            ∙ replicate_more (16 - a.count) no_job
            ∙ ap (λ n. replicate n no_job) (omega (arith, some, i.few, i.places));
      }

-- The first of some jobs is the oldest.
pub first_oldest : (kind : Kind) (jobs : List Job) (n : ℕ) → n ≢ 0 → n ≤ length jobs → Some (record { kind = kind; job = get_or jobs 0 no_job }) ≡ oldest kind (take n jobs)
first_oldest kind jobs zero some few = absurd (some refl)
first_oldest kind [] (suc n) some few = absurd (omega (arith, few))
first_oldest kind (job ∷ jobs) (suc n) some few = refl
