use Rattle.std.proofs.Common.{◌+◌, ◌≤◌, [], List, length, take}
use Rattle.std.specs.Prelude.{IfSome, IsSomeAnd}
use Rattle.flow_rules.specs.Tables.{IsTable}
use Rattle.flow_rules.specs.declared.rules.Rule.{Rule}
use Rattle.round_mix.specs.Prepared.{IsPrepared}
use Rattle.round_mix.proofs.Mixed.begin_all.Given as goal

abbrev pub invariant-loop-change : goal.invariant-loop-change
invariant-loop-change l = record {
  so_far : (table : List Rule) → IsTable table → IsSomeAnd l.initial.self.prepared (IsPrepared table [])
      → IsSomeAnd l.self.prepared (IsPrepared table (take l.change-index l.changes));
  few : IfSome l.initial.self.prepared (λ old. IsSomeAnd l.self.prepared (λ marks. length marks ≤ length old + l.change-index));
  room : l.initial.self.room ≤ l.self.room;
}
