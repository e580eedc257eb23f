use Rattle.std.proofs.Common.{◌≡◌, ℕ, List, Option, sym, ◌∙◌, ap, subst}
use Rattle.std.proofs.lemmas.Result.{IfOk-weaker, on_ok_weaker}
use Rattle.demands.specs.Duties.{DemandView, duties_of}
use Rattle.update_model.specs.Mixtures.{Rollout}
use Rattle.mixed_walks.specs.Walks.{IsWalked}
use Rattle.evidence_store.specs.Found.{IsFound}
use Rattle.evidence_store.specs.declared.class_evidence.ClassEvidence.{ClassEvidence}
use Rattle.table_difference.specs.Targets.{Target}
use Rattle.round_judge.proofs.JudgingLaws.{numbered_within}
use Rattle.round_judge.proofs.LastLaws.{last_here, last_back}
use Rattle.round_judge.proofs.goal.Goal.find_evidence.Goals as goal

pub evidence_by_last-requires-clause-entry : goal.evidence_by_last-requires-clause-entry
evidence_by_last-requires-clause-entry c =
    numbered_within c.self.inside.net.now c.keeps_rules.ensures c.args.self.now.classes c.self.inside.classes.now (ap (λ (a : Target). a.classes) c.self.view_is) c.self.invariant.hosts c.args.numbered c.requires.class

pub evidence_by_last-requires-clause-walked : goal.evidence_by_last-requires-clause-walked
evidence_by_last-requires-clause-walked c =
    let (u, k, net, walked) = c.requires.walked in
    (u, k, net ∙ sym (ap (λ (a : Target). a.net) c.self.view_is), walked)

pub evidence_by_last-requires-clause-last : goal.evidence_by_last-requires-clause-last
evidence_by_last-requires-clause-last c =
    last_here c.args.self.now c.self.inside.net.now c.self.inside.new.now c.self.inside.duties.now c.self.inside.classes.now c.self.view_is c.self.invariant.duties_of_them c.args.last.now c.requires.last

pub returns-clause-found : goal.returns-clause-found
returns-clause-found c =
    let to = c.args.self.now in
    let class = c.args.numbered.class in
    IfOk-weaker c.evidence_by_last.result
    (λ (f : Option ClassEvidence). (u : Rollout) (k : ℕ) → u.net ≡ c.self.inside.net.now → IsWalked u k class.first class.entry c.args.walk.now
    → IsFound u k class (duties_of c.self.inside.duties.now.demands class.entry class.first) f)
    (λ (f : Option ClassEvidence). (u : Rollout) (k : ℕ) → u.net ≡ to.net → IsWalked u k class.first class.entry c.args.walk.now → IsFound u k class (duties_of to.demands class.entry class.first) f)
    (λ f all u k net walked.
    subst (λ (ds : List DemandView). IsFound u k class (duties_of ds class.entry class.first) f) (ap (λ (a : Target). a.demands) c.self.view_is) (all u k (net ∙ sym (ap (λ (a : Target). a.net) c.self.view_is)) walked))
    c.evidence_by_last.ensures.found

pub returns-clause-last : goal.returns-clause-last
returns-clause-last c =
    on_ok_weaker c.evidence_by_last.result
    (λ held. last_back c.args.self.now c.self.inside.net.now c.self.inside.new.now c.self.inside.duties.now c.self.inside.classes.now c.self.view_is c.self.invariant.duties_of_them c.evidence_by_last.new.last held)
    c.evidence_by_last.ensures.last
