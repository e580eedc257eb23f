use Rattle.std.proofs.Common.{◌≡◌, ◌+◌, ℕ, [], ◌∷◌, ◌++◌, List, length, sym, ◌∙◌, ap, subst, arith, length-append}
use Rattle.flow_rules.specs.Tables.{IsClear, rules_at, rules_of_all}
use Rattle.flow_rules.specs.declared.rules.Rule.{Rule}
use Rattle.round_tables.specs.PreparedTables.{IsMixed}
use Rattle.round_tables.specs.Trials.{HaveRoom}
use Rattle.round_tables.proofs.GrowLaws.{have_pushed}
use Rattle.round_tables.proofs.StepLaws.{switch_n, each_pushed}
use Rattle.flow_rules.proofs.TableLaws.{rules_get}
use Rattle.round_tables.proofs.alone.all_alone.Goals as goal

pub alone-requires : goal.alone-requires
alone-requires c =
    subst IsClear (rules_get c.args.tables.now c.loop-i.i c.table-table.result.now c.table-table.ensures) (c.requires.clear (switch_n c.loop-i.i))

pub loop-i-preserved : goal.loop-i-preserved
loop-i-preserved c =
    let i = c.loop-i.i in
    let inv = c.loop-i.invariant in
    let mixes = c.loop-i.mixes.items in
    let rooms = c.loop-i.rooms.items in
    let mixed = c.in_ok-mixed.mixed in
    let pushed : c.push.new.self.items ≡ mixes ++ mixed ∷ [] = c.in_ok-push.ensures.items in
    let room : ℕ = length c.table-table.result.now.rules + 1 in
    let counted : c.push-in-loop-i.new.self.items ≡ rooms ++ room ∷ [] = c.in_ok-push-2.ensures.items ∙ ap (λ (n : ℕ). rooms ++ n ∷ []) (let rules_are = ap length c.rules.ensures.value in omega arith) in
    let rules = rules_of_all c.args.tables.now in
    let here : IsMixed (rules_at rules (switch_n i)) [] mixed =
    subst (λ (rs : List Rule). IsMixed rs [] mixed) (sym (rules_get c.args.tables.now i c.table-table.result.now c.table-table.ensures)) c.in_ok-mixed.ensures.prepared in
    record {
      len = ap length pushed ∙ length-append mixes (mixed ∷ []) ∙ omega arith;
      counts = ap length counted ∙ length-append rooms (room ∷ []) ∙ omega arith;
      prepared = each_pushed mixes mixed c.push.new.self.items i pushed inv.len (λ s m. IsMixed (rules_at rules s) [] m) inv.prepared here;
      room = subst (λ (ns : List ℕ). HaveRoom ns c.push.new.self.items) (sym counted)
          (subst (HaveRoom (rooms ++ room ∷ [])) (sym pushed) (have_pushed rooms mixes room mixed (inv.counts ∙ sym inv.len) inv.room c.in_ok-mixed.ensures.room));
    }
