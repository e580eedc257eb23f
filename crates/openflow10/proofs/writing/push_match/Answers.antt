use Rattle.std.proofs.lemmas.Result.{IfOk-equal}
use Rattle.openflow10.proofs.Written.{match_pushed}
use Rattle.openflow10.proofs.writing.push_match.Goals as goal

pub returns : goal.returns
returns c =
    IfOk-equal _ _ _ _ c.push_zeros-4.ensures
    (match_pushed c.args.out.now.items _ _ _ _ _ _ _ _ c.args.pattern.now _ _ _ _ c.wildcards_number.ensures c.in_port_number.ensures c.dl_vlan_number.ensures c.nw_dst_number.ensures
    c.in_ok-push_u32.ensures c.in_ok-push_u16.ensures c.in_ok-push_zeros.ensures c.in_ok-push_u16-2.ensures c.in_ok-push_zeros-2.ensures c.in_ok-push_u16-3.ensures
    c.in_ok-push_zeros-3.ensures c.in_ok-push_u32-2.ensures)
