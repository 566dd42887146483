-- What a reader believes: the jobs and the rule of turns, lists of calls, the ground, how long a job waits.
pub mod Jobs
pub mod Calls
pub mod Grounds
pub mod Waits
pub mod Examples
-- How the jobs of one kind lie in memory.
pub mod Lanes
-- Which queues the calls hand over, and what each call promises.
pub mod Handing
pub mod Runs
