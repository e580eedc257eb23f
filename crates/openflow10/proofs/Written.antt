-- Pieces that are appended in turn are the text of a table.
use Rattle.std.proofs.Common.{◌≡◌, ℕ, List, ◌++◌, replicate, sym, ap, ◌∙◌, append_assoc}
use Rattle.std.proofs.lemmas.List.Concat.{flat_map-append}
use Rattle.flow_rules.specs.declared.rules.Pattern.{Pattern}
use Rattle.flow_rules.specs.declared.rules.Key.{Key}
use Rattle.openflow10.specs.Layout.{Row, text_of, number_bytes}
use Rattle.openflow10.specs.Match.{match_table, match_of, in_port_of, dl_vlan_of}
use Rattle.openflow10.specs.FlowMod.{flow_mod_table, command_table, flow_mod_of, command_of}
use Rattle.openflow10.specs.Actions.{actions_table, verb_actions}
use Rattle.openflow10.specs.Messages.{header_table, wire_text}
use Rattle.openflow10.specs.declared.Verb.{Verb}
use Rattle.openflow10.specs.declared.FlowMod as flow
use Rattle.openflow10.specs.declared.Message.TheVariants.{Flow}

join_seven : (old a b d e f g h : List ℕ) → old ++ a ++ b ++ d ++ e ++ f ++ g ++ h ≡ old ++ (a ++ (b ++ (d ++ (e ++ (f ++ (g ++ h))))))
join_seven old a b d e f g h = simp append_assoc

join_nine : (old a b d e f g h i j : List ℕ) → old ++ a ++ b ++ d ++ e ++ f ++ g ++ h ++ i ++ j ≡ old ++ (a ++ (b ++ (d ++ (e ++ (f ++ (g ++ (h ++ (i ++ j))))))))
join_nine old a b d e f g h i j = simp append_assoc

pub match_text : (old : List ℕ) (p : Pattern) →
    old ++ number_bytes 4 (match_of p).wildcards ++ number_bytes 2 (in_port_of p.in_port) ++ replicate 12 0 ++ number_bytes 2 (dl_vlan_of p.vlan) ++ replicate 2 0
    ++ number_bytes 2 2048 ++ replicate 8 0 ++ number_bytes 4 p.dst.base ++ replicate 4 0
    ≡ old ++ text_of (match_table 8 (match_of p))
unfolding number_bytes
match_text old p =
    join_nine old (number_bytes 4 (match_of p).wildcards) (number_bytes 2 (in_port_of p.in_port)) (replicate 12 0) (number_bytes 2 (dl_vlan_of p.vlan)) (replicate 2 0) (number_bytes 2 2048)
    (replicate 8 0) (number_bytes 4 p.dst.base) (replicate 4 0)

pub command_text : (old : List ℕ) (v : Verb) (k : Key) →
    old ++ replicate 8 0 ++ number_bytes 2 (command_of v) ++ replicate 4 0 ++ number_bytes 2 k.priority ++ number_bytes 4 4294967295 ++ number_bytes 2 65535 ++ replicate 2 0
    ≡ old ++ text_of (command_table (flow_mod_of v k))
unfolding number_bytes
command_text old v k =
    join_seven old (replicate 8 0) (number_bytes 2 (command_of v)) (replicate 4 0) (number_bytes 2 k.priority) (number_bytes 4 4294967295) (number_bytes 2 65535) (replicate 2 0)

text_of-append : (xs ys : List Row) → text_of (xs ++ ys) ≡ text_of xs ++ text_of ys
text_of-append xs ys = flat_map-append (λ row. number_bytes row.bytes row.value) xs ys

join_four : (old a b d e : List ℕ) → old ++ a ++ b ++ d ++ e ≡ old ++ (a ++ ((b ++ d) ++ e))
join_four old a b d e = simp append_assoc

pub flow_text : (old : List ℕ) (m : flow.FlowMod) →
    old ++ text_of (header_table (Flow m)) ++ text_of (match_table 8 (match_of m.key.pattern)) ++ text_of (command_table (flow_mod_of m.verb m.key)) ++ text_of (actions_table 72 (verb_actions m.verb))
    ≡ old ++ wire_text (Flow m)
unfolding wire_text
flow_text old m =
    let f = flow_mod_of m.verb m.key in
    let actions = actions_table 72 (verb_actions m.verb) in
    join_four old (text_of (header_table (Flow m))) (text_of (match_table 8 f.pattern)) (text_of (command_table f)) (text_of actions)
    ∙ ap (λ (t : List ℕ). old ++ (text_of (header_table (Flow m)) ++ (t ++ text_of actions))) (sym (text_of-append (match_table 8 f.pattern) (command_table f)))
    ∙ ap (λ (t : List ℕ). old ++ (text_of (header_table (Flow m)) ++ t)) (sym (text_of-append (flow_mod_table f) actions))
    ∙ ap (λ (t : List ℕ). old ++ t) (sym (text_of-append (header_table (Flow m)) (flow_mod_table f ++ actions)))

-- one piece more
after : (w x y a : List ℕ) → y ≡ x ++ a → x ≡ w → y ≡ w ++ a
after w x y a e f = e ∙ ap (λ (t : List ℕ). t ++ a) f

pub match_pushed : (old x1 x2 x3 x4 x5 x6 x7 x8 : List ℕ) (p : Pattern) (w port vlan dst : ℕ)
    → w ≡ (match_of p).wildcards → port ≡ in_port_of p.in_port → vlan ≡ dl_vlan_of p.vlan → dst ≡ p.dst.base
    → x1 ≡ old ++ number_bytes 4 w → x2 ≡ x1 ++ number_bytes 2 port → x3 ≡ x2 ++ replicate 12 0 → x4 ≡ x3 ++ number_bytes 2 vlan
    → x5 ≡ x4 ++ replicate 2 0 → x6 ≡ x5 ++ number_bytes 2 2048 → x7 ≡ x6 ++ replicate 8 0 → x8 ≡ x7 ++ number_bytes 4 dst
    → x8 ++ replicate 4 0 ≡ old ++ text_of (match_table 8 (match_of p))
match_pushed old x1 x2 x3 x4 x5 x6 x7 x8 p w port vlan dst ew eport evlan edst e1 e2 e3 e4 e5 e6 e7 e8 =
    let f1 : x1 ≡ old ++ number_bytes 4 (match_of p).wildcards = e1 ∙ ap (λ (n : ℕ). old ++ number_bytes 4 n) ew in
    let f2 = after _ x1 x2 (number_bytes 2 (in_port_of p.in_port)) (e2 ∙ ap (λ (n : ℕ). x1 ++ number_bytes 2 n) eport) f1 in
    let f3 = after _ x2 x3 (replicate 12 0) e3 f2 in
    let f4 = after _ x3 x4 (number_bytes 2 (dl_vlan_of p.vlan)) (e4 ∙ ap (λ (n : ℕ). x3 ++ number_bytes 2 n) evlan) f3 in
    let f5 = after _ x4 x5 (replicate 2 0) e5 f4 in
    let f6 = after _ x5 x6 (number_bytes 2 2048) e6 f5 in
    let f7 = after _ x6 x7 (replicate 8 0) e7 f6 in
    let f8 = after _ x7 x8 (number_bytes 4 p.dst.base) (e8 ∙ ap (λ (n : ℕ). x7 ++ number_bytes 4 n) edst) f7 in
    ap (λ (t : List ℕ). t ++ replicate 4 0) f8 ∙ match_text old p

pub command_pushed : (old x1 x2 x3 x4 x5 x6 : List ℕ) (v : Verb) (k : Key) (command : ℕ) → command ≡ command_of v
    → x1 ≡ old ++ replicate 8 0 → x2 ≡ x1 ++ number_bytes 2 command → x3 ≡ x2 ++ replicate 4 0 → x4 ≡ x3 ++ number_bytes 2 k.priority
    → x5 ≡ x4 ++ number_bytes 4 4294967295 → x6 ≡ x5 ++ number_bytes 2 65535
    → x6 ++ replicate 2 0 ≡ old ++ text_of (command_table (flow_mod_of v k))
command_pushed old x1 x2 x3 x4 x5 x6 v k command ec e1 e2 e3 e4 e5 e6 =
    let f2 = after _ x1 x2 (number_bytes 2 (command_of v)) (e2 ∙ ap (λ (n : ℕ). x1 ++ number_bytes 2 n) ec) e1 in
    let f3 = after _ x2 x3 (replicate 4 0) e3 f2 in
    let f4 = after _ x3 x4 (number_bytes 2 k.priority) e4 f3 in
    let f5 = after _ x4 x5 (number_bytes 4 4294967295) e5 f4 in
    let f6 = after _ x5 x6 (number_bytes 2 65535) e6 f5 in
    ap (λ (t : List ℕ). t ++ replicate 2 0) f6 ∙ command_text old v k

pub flow_pushed : (old x1 x2 x3 : List ℕ) (m : flow.FlowMod)
    → x1 ≡ old ++ text_of (header_table (Flow m)) → x2 ≡ x1 ++ text_of (match_table 8 (match_of m.key.pattern)) → x3 ≡ x2 ++ text_of (command_table (flow_mod_of m.verb m.key))
    → x3 ++ text_of (actions_table 72 (verb_actions m.verb)) ≡ old ++ wire_text (Flow m)
flow_pushed old x1 x2 x3 m e1 e2 e3 =
    let f2 = after _ x1 x2 (text_of (match_table 8 (match_of m.key.pattern))) e2 e1 in
    let f3 = after _ x2 x3 (text_of (command_table (flow_mod_of m.verb m.key))) e3 f2 in
    ap (λ (t : List ℕ). t ++ text_of (actions_table 72 (verb_actions m.verb))) f3 ∙ flow_text old m
