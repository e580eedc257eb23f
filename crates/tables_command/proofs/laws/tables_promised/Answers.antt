use Rattle.command_base.proofs.RunLaws.{settled_done, settled_not_a_run}
use Rattle.tables_command.proofs.TabledLaws.{done, written_of, reads_of, not_a_run, first_step}
use Rattle.tables_command.proofs.TurnsNothingLaws.{turns_nothing}
use Rattle.tables_command.proofs.laws.tables_promised.Goals as goal

pub returns : goal.returns
returns c = λ files names old new result answered. record {
  done = λ settled. done files names old new result (answered settled);
  tables = λ m mean is. written_of files names old new result (answered (settled_done _ is)) m mean is;
  read_back = λ m mean is. reads_of files names old new result (answered (settled_done _ is)) m mean is;
  not_a_run = λ settled. not_a_run files names old new result (answered settled);
  first = λ m mean is. first_step files names old new result (answered (settled_not_a_run _ is)) m mean is;
  turns_nothing = λ m mean. turns_nothing files names old new result answered m mean;
}
