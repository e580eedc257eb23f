use Rattle.std.proofs.Common.{◌≡◌, [], ◌∷◌, ◌++◌, take, sym, ap, ◌∙◌, true, false}
use Rattle.std.proofs.lemmas.List.{take_more}
use Rattle.std.proofs.lemmas.Bool.{cond-true, cond-false}
use Rattle.flow_rules.specs.Patterns.{Header, covers}
use Rattle.flow_rules.specs.Tables.{matched_rule}
use Rattle.flow_rules.specs.Scan.{better_of}
use Rattle.flow_rules.proofs.ScanLaws.{matched-push}
use Rattle.trace_command.proofs.lines.picked_at.Goals as goal
use Rattle.trace_command.proofs.lines.picked_at.Goals.{then-covers, else-covers}

pub loop-rule-preserved : goal.loop-rule-preserved
loop-rule-preserved c =
    let h : Header = record { port = c.args.place.port; vlan = c.args.place.vlan; dst = c.args.dst } in
    let seen = take c.loop-rule.rule-index c.args.rules.now in
    let r = c.rule-item.result in
    let more = ap (matched_rule h) (take_more c.args.rules.now c.loop-rule.rule-index r c.loop-rule-test.true ∙ ap (λ x. seen ++ x ∷ []) (sym c.rule-item.is)) ∙ matched-push h seen r in
    let so_far = c.loop-rule.invariant in
    elim c.if-covers.branch [
      | then-covers w ↦ (let covered : covers r.key.pattern h ≡ true = sym c.covers.ensures ∙ w.if-covers.true in
          w.best-is ∙ w.better-best.ensures ∙ ap (λ o. better_of o r) so_far ∙ sym (cond-true (covers r.key.pattern h) (better_of (matched_rule h seen) r) (matched_rule h seen) covered) ∙ sym more)
      | else-covers w ↦ (let missed : covers r.key.pattern h ≡ false = sym c.covers.ensures ∙ w.if-covers.false in
          w.best-is ∙ so_far ∙ sym (cond-false (covers r.key.pattern h) (better_of (matched_rule h seen) r) (matched_rule h seen) missed) ∙ sym more)
    ]
