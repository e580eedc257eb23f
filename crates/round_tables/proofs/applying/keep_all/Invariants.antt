use Rattle.std.proofs.Common.{◌≡◌, ◌<◌, ◌≤◌, [], false, length}
use Rattle.net_base.specs.declared.ids.SwitchId.{SwitchId}
use Rattle.update_model.specs.Changes.{rules_after}
use Rattle.round_tables.specs.PreparedTables.{IsMixed, is_touched, list_at, mix_at, rules_there}
use Rattle.round_tables.proofs.applying.keep_all.Given as goal

abbrev pub invariant-loop-i : goal.invariant-loop-i
invariant-loop-i l = record {
  mixes : length l.mixes ≡ length l.initial.mixes;
  done : (s : SwitchId) → s.0 < l.i → is_touched l.touched s ≡ false
      → IsMixed (rules_after (list_at l.lists s).changes (rules_there l.tables s)) [] (mix_at l.mixes s);
  left : (s : SwitchId) → l.i ≤ s.0 → mix_at l.mixes s ≡ mix_at l.initial.mixes s;
  room : (s : SwitchId) → (mix_at l.initial.mixes s).room ≤ (mix_at l.mixes s).room;
}
