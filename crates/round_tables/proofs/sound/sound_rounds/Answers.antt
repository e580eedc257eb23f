use Rattle.std.proofs.Common.{◌≡◌, ◌<◌, ℕ, length, sym, ap, subst, inl, inr, arith, add-one}
use Rattle.std.specs.Prelude.{IfErr}
use Rattle.std.proofs.lemmas.Bool.{cases_lt}
use Rattle.std.proofs.lemmas.Result.{err_from_is_err_and, IfErr-at_err, IfErr-weaker}
use Rattle.flow_rules.specs.Tables.{rules_of_all}
use Rattle.update_model.specs.Mixtures.{Rollout}
use Rattle.round_tables.specs.PreparedTables.{StandsBefore}
use Rattle.round_tables.specs.Sound.{IsFault, IsFaultIn}
use Rattle.round_tables.proofs.SoundLaws.{IsSound, fault_first, sound_prepared}
use Rattle.round_tables.proofs.sound.sound_rounds.Goals as goal

pub loop-k-preserved : goal.loop-k-preserved
loop-k-preserved c =
    let u = c.rollout-update.result in
    let k = c.loop-k.k in
    record {
      stands = subst (λ (n : ℕ). StandsBefore u n c.apply_next.new.tables) (sym (add-one k)) c.apply_next.ensures.stands;
      room = c.apply_next.ensures.room;
      sound = λ j less. elim (cases_lt j k) [
        | inl lower ↦ c.loop-k.invariant.sound j lower
        | inr more ↦ (let e : k ≡ j = omega arith in subst (IsSound u) e (sound_prepared u k c.load_next.new.tables c.in_ok-load_next.ensures.ok))
      ];
    }

pub returns-clause-clear : goal.returns-clause-clear
returns-clause-clear c k less s mixed held =
    let sound = c.loop-k.invariant.sound k (let none = c.loop-k-test.false in let n = c.count-k-end.ensures in omega arith) in
    (subst (λ (v : Rollout). IsSound v k) c.rollout-update.ensures sound).clear s mixed held

pub returns-in_err-load_next-clause-err : goal.returns-in_err-load_next-clause-err
returns-in_err-load_next-clause-err c =
    let u = c.rollout-update.result in
    let v : Rollout = record { net = c.args.net.now; old = rules_of_all c.args.old.now; rounds = c.args.rounds.now } in
    let k = c.loop-k.k in
    let rounds = ap (λ (w : Rollout). length w.rounds) c.rollout-update.ensures in
    let less : k < length u.rounds = (let test = c.loop-k-test.true in let n = c.count-k-end.ensures in omega arith) in
    let said : IfErr c.load_next.result (λ f. IsFault v f) =
    IfErr-weaker c.load_next.result (λ f. IsFaultIn u k f) (λ f. IsFault v f)
    (λ f h. subst (λ (w : Rollout). IsFault w f) c.rollout-update.ensures (fault_first u k less c.loop-k.invariant.sound f h)) c.load_next.ensures.err in
    let p = err_from_is_err_and c.from_residual-in_err-load_next.result c.from_residual-in_err-load_next.ensures.1 in
    rw (p.1, p.2) (IfErr-at_err (λ f. IsFault v f) c.in_err-load_next.was said)
