use Rattle.command_base.proofs.DialogueLaws.{unfetched, fetched_gives, fetched_stops}
use Rattle.tables_command.proofs.readings.read_two_way_file.Goals as goal

pub returns-in_err-bytes-clause-stops : goal.returns-in_err-bytes-clause-stops
returns-in_err-bytes-clause-stops g c = unfetched _ _ _ _ _ _ _ _ _ _ c.in_err-bytes.ensures.stops c.from_residual.ensures

pub returns-clause-gives : goal.returns-clause-gives
returns-clause-gives g c = fetched_gives _ _ _ _ _ _ _ c.in_ok-bytes.ensures.file c.in_ok-bytes.ensures.within c.deref.ensures.value c.schedule_of.ensures.ok

pub returns-clause-stops : goal.returns-clause-stops
returns-clause-stops g c =
    fetched_stops _ _ _ _ _ _ _ _ _ _ c.in_ok-bytes.ensures.file c.in_ok-bytes.ensures.within c.in_ok-bytes.ensures.whole c.deref.ensures.value c.schedule_of.ensures.bad
