use Rattle.std.proofs.Common.{◌≤◌, List, length}
use Rattle.std.specs.Prelude.{IfSome, IsSomeAnd}
use Rattle.flow_rules.specs.Tables.{IsTable}
use Rattle.flow_rules.specs.declared.rules.Rule.{Rule}
use Rattle.round_mix.specs.Prepared.{IsPrepared}
use Rattle.round_mix.proofs.MadeLaws.{AreMadeTo}
use Rattle.round_mix.proofs.Mixed.keep_all.Given as goal

abbrev pub invariant-loop-change : goal.invariant-loop-change
invariant-loop-change l = record {
  made : (table : List Rule) → IsTable table → IsSomeAnd l.initial.self.prepared (IsPrepared table l.changes) → AreMadeTo table l.changes l.change-index l.self.prepared;
  few : IfSome l.initial.self.prepared (λ old. IsSomeAnd l.self.prepared (λ marks. length marks ≤ length old));
  room : l.initial.self.room ≤ l.self.room;
}
