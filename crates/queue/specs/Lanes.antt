-- How the waiting jobs of one kind lie in memory: 16 places, and how many of them hold a job.
use Rattle.std.specs.Prelude.{◌≡◌, List, ◌++◌, ◌-◌, ◌≤◌, length, take, drop, replicate}
use Rattle.std.proofs.Common.{sym, length-take-le, take-append-drop}
use Rattle.queue.specs.declared.Job.{Job}
use Rattle.queue.specs.declared.lane.Lane.TheInside.{Inside}

-- What stands in a place that holds no job.
abbrev pub no_job : Job
no_job = record { query = 0; structure = 0 }

-- The waiting jobs, the oldest first.
abbrev pub jobs_of : Inside → List Job
jobs_of a = take a.count a.jobs

-- The lane in which these wait.
abbrev pub lane_of : List Job → Inside
lane_of jobs = record { jobs = jobs ++ replicate (16 - length jobs) no_job; count = length jobs }

-- There are 16 places, and those behind the waiting jobs hold none.
pub record IsLane (a : Inside) : Type 0 where
  pub places : length a.jobs ≡ 16
  pub few : a.count ≤ length a.jobs
  pub behind : drop a.count a.jobs ≡ replicate (16 - a.count) no_job

-- So the waiting jobs tell all of a lane.
pub lane_back : (a : Inside) → IsLane a → lane_of (jobs_of a) ≡ a
lane_back a i = rw (length-take-le a.count a.jobs i.few, sym i.behind, take-append-drop a.count a.jobs)
