use Rattle.std.proofs.Common.{◌≡◌, ℕ, ◌/◌, ◌%◌, ◌<◌, length, get_or, List, ap, subst, sym, ◌∙◌}
use Rattle.std.specs.Prelude.{slice_index}
use Rattle.net_base.specs.declared.ids.Stop.{Stop}
use Rattle.net_base.specs.declared.ids.Vlan.{Vlan}
use Rattle.dest_classes.specs.Classes.{ClassList, IsClass, class_count, atom_count, boundaries}
use Rattle.dest_classes.proofs.MapLaws.{class_at, class_is}
use Rattle.dest_classes.proofs.ClassMap.class.Goals as goal

pub returns-clause-is : goal.returns-clause-is
returns-clause-is c =
    let seen : ClassList = record { hosts = c.self.inside.hosts.items; vlans = c.self.inside.vlans.items; prefixes = c.self.inside.prefixes.items } in
    let same : seen ≡ c.args.self.now = c.self.view_is in
    let n = c.args.n in
    let host : Stop = c.index-host.result.now in
    let vlan : Vlan = c.index-vlan.result.now in
    let atoms : c.count.result ≡ atom_count seen = c.count.ensures.count ∙ ap length c.self.invariant.0 in
    let again : c.count-2.result ≡ atom_count seen = c.count-2.ensures.count ∙ ap length c.self.invariant.0 in
    let first : c.len.result ≡ length seen.vlans = c.len.ensures ∙ c.self.inside.vlans.ok.0 in
    let second : c.len-2.result ≡ length seen.vlans = c.len-2.ensures ∙ c.self.inside.vlans.ok.0 in
    let fits : n < class_count seen = subst (λ (m : ClassList). n < class_count m) (sym same) c.requires in
    subst (λ (m : ClassList). IsClass m n (record { entry = record { switch = host.switch; port = host.port; vlan = vlan }; first = c.first.result })) same
    (class_at seen n host vlan c.first.result fits
    (c.index-host.ensures ∙ ap (λ i. get_or seen.hosts i host) (ap (λ a. n / a / c.len.result) atoms ∙ ap (λ v. n / atom_count seen / v) first))
    (c.index-vlan.ensures ∙ ap (λ i. get_or seen.vlans i vlan) (ap (λ a. n / a % c.len-2.result) atoms ∙ ap (λ v. n / atom_count seen % v) second))
    (c.first.ensures ∙ ap (λ (xs : List ℕ). slice_index xs (n % c.count-2.result)) c.self.invariant.0 ∙ ap (λ a. slice_index (boundaries seen.prefixes) (n % a)) again))

pub returns-clause-only : goal.returns-clause-only
returns-clause-only c = λ d p.
    class_is c.args.self.now c.args.n d (record { entry = record { switch = c.index-host.result.now.switch; port = c.index-host.result.now.port; vlan = c.index-vlan.result.now }; first = c.first.result })
    p (returns-clause-is c)
