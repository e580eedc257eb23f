use Rattle.std.proofs.Common.{refl, sym, ap, ◌∙◌, map}
use Rattle.std.specs.Prelude.{not}
use Rattle.std.specs.List.{list_any}
use Rattle.plan_format.specs.Evidence.{shared_eq, with_shared, number_of_shared}
use Rattle.certificates.specs.SharedKeys.{shared_of}
use Rattle.plan_format.proofs.KeyLaws.{any_of_map, place_of_map, insert_in_map}
use Rattle.plan_format.proofs.full_picks.SharedKeys.number.Goals as goal

pub returns-clause-number : goal.returns-clause-number
returns-clause-number c =
    c.in_ok-number.ensures.index ∙ place_of_map shared_of _ shared_eq (λ a b. refl) c.in_ok-key.key c.self.inside.keys.keys ∙ ap (λ s. number_of_shared (map shared_of c.self.inside.keys.keys) s) c.in_ok-key.ensures
    ∙ ap (λ l. number_of_shared l c.args.shared.now) c.self.view_is

pub returns-clause-new : goal.returns-clause-new
returns-clause-new c =
    c.in_ok-number.ensures.added ∙ ap not (sym (any_of_map shared_of _ shared_eq (λ a b. refl) c.in_ok-key.key c.self.inside.keys.keys))
    ∙ ap (λ s. not (list_any (shared_eq s) (map shared_of c.self.inside.keys.keys))) c.in_ok-key.ensures
    ∙ ap (λ l. not (list_any (shared_eq c.args.shared.now) l)) c.self.view_is

pub returns-clause-keys : goal.returns-clause-keys
returns-clause-keys c =
    ap (λ l. map shared_of l) c.in_ok-number.ensures.keys ∙ insert_in_map shared_of _ shared_eq (λ a b. refl) c.in_ok-key.key c.self.inside.keys.keys ∙ ap (λ s. with_shared (map shared_of c.self.inside.keys.keys) s) c.in_ok-key.ensures
    ∙ ap (λ l. with_shared l c.args.shared.now) c.self.view_is
