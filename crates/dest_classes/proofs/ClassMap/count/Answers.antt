use Rattle.std.proofs.Common.{◌≡◌, ◌*◌, ◌≤◌, length, subst, ◌∙◌, arith}
use Rattle.dest_classes.specs.Classes.{ClassList, class_count}
use Rattle.dest_classes.proofs.MapLaws.{pairs_fit}
use Rattle.dest_classes.proofs.ClassMap.count.Goals as goal

pub overflow_mul-result : goal.overflow_mul-result
overflow_mul-result c =
    let seen : ClassList = record { hosts = c.self.inside.hosts.items; vlans = c.self.inside.vlans.items; prefixes = c.self.inside.prefixes.items } in
    let few : class_count seen ≤ 8192 = subst (λ xs. length seen.hosts * length seen.vlans * length xs ≤ 8192) c.self.invariant.0 c.self.invariant.1 in
    let h = pairs_fit seen 8192 few in
    let hosts : c.len.result ≡ length seen.hosts = c.len.ensures ∙ c.self.inside.hosts.ok.0 in
    let vlans : c.len-2.result ≡ length seen.vlans = c.len-2.ensures ∙ c.self.inside.vlans.ok.0 in
    rw (hosts, vlans) (omega arith)
