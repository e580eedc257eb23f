use Rattle.command_base.specs.Readings.{reading_policy}
use Rattle.command_base.proofs.DialogueLaws.{gives_end, unfetched, fetched_gives, fetched_stops}
use Rattle.command_base.proofs.readings.read_policy.Goals as goal

pub returns-in_err-bytes-in-Some-clause-stops : goal.returns-in_err-bytes-in-Some-clause-stops
unfolding reading_policy
returns-in_err-bytes-in-Some-clause-stops g c =
    rw c.in-Some.is (unfetched _ _ _ _ _ _ _ _ _ _ c.in_err-bytes-in-Some.ensures.stops c.from_residual-in_err-bytes-in-Some.ensures)

pub returns-in_ok-no_demands-in-None-clause-gives :
    goal.returns-in_ok-no_demands-in-None-clause-gives
unfolding reading_policy
returns-in_ok-no_demands-in-None-clause-gives g c = rw (c.in-None.is, c.in_ok-no_demands-in-None.ensures) (λ last. gives_end _ last _)

pub returns-in_ok-bytes-in-Some-clause-gives : goal.returns-in_ok-bytes-in-Some-clause-gives
unfolding reading_policy
returns-in_ok-bytes-in-Some-clause-gives g c =
    rw c.in-Some.is (fetched_gives _ _ _ _ _ _ _ c.in_ok-bytes-in-Some.ensures.file c.in_ok-bytes-in-Some.ensures.within c.deref.ensures.value c.demands_of.ensures.ok)

pub returns-in_ok-bytes-in-Some-clause-stops : goal.returns-in_ok-bytes-in-Some-clause-stops
unfolding reading_policy
returns-in_ok-bytes-in-Some-clause-stops g c =
    rw c.in-Some.is (fetched_stops _ _ _ _ _ _ _ _ _ _ c.in_ok-bytes-in-Some.ensures.file c.in_ok-bytes-in-Some.ensures.within c.in_ok-bytes-in-Some.ensures.whole c.deref.ensures.value c.demands_of.ensures.bad)
