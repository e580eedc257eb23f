use Rattle.std.proofs.Common.{◌*◌, ◌^◌, ◌≤◌, length, arith}
use Rattle.std.proofs.lemmas.Nat.{mul-le}
use Rattle.dest_classes.proofs.MapLaws.{few_hosts}
use Rattle.dest_classes.proofs.numbering.class_map.Goals as goal

ports : (c : goal.After-vlans) → length c.hosts.result.now * length c.vlans.result.now ≤ 8192 * 64
ports c =
    let hosts = few_hosts c.args.net.now c.keeps_rules.ensures in
    let vlans = c.keeps_rules.ensures.few_vlans in
    rw (c.hosts.ensures, c.vlans.ensures) (mul-le (length c.args.net.now.hosts) (length c.args.net.now.vlans) 8192 64 hosts vlans)

pub overflow_mul-product : goal.overflow_mul-product
overflow_mul-product c = let h = ports c in omega arith

pub overflow_mul-product-2 : goal.overflow_mul-product-2
overflow_mul-product-2 c =
    let hosts = few_hosts c.args.net.now c.keeps_rules.ensures in
    let vlans = c.keeps_rules.ensures.few_vlans in
    let few : length c.hosts.result.now * length c.vlans.result.now ≤ 8192 * 64 = rw (c.hosts.ensures, c.vlans.ensures) (mul-le (length c.args.net.now.hosts) (length c.args.net.now.vlans) 8192 64 hosts vlans) in
    let all = mul-le (length c.hosts.result.now * length c.vlans.result.now) c.count.result (8192 * 64) (2 ^ 32) few c.count.ensures.few in
    omega arith
