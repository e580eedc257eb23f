-- The lines of messages are read back as these messages, and as no others.
use Rattle.std.proofs.Common.{◌≡◌, ℕ, zero, suc, ◌+◌, ◌<◌, List, [], ◌∷◌, ◌++◌, length, get_or, Some, None, decimal, refl, sym, ap, ◌∙◌, subst, append_assoc, arith}
use Rattle.std.specs.Prelude.{flat_map}
use Rattle.std.specs.List.{AllByRecursion}
use Rattle.std.specs.declared.result.Result.{Result}
use Rattle.std.specs.Result.{result_unwrap_or}
use Rattle.std.proofs.lemmas.Option.{same_Some}
use Rattle.std.proofs.Math.Seq.{take-length}
use Rattle.hex.specs.Hex.{encode_lower, decode_of}
use Rattle.hex.specs.declared.error.FromHexError.{FromHexError}
use Rattle.hex.proofs.HexLemmas.{decode_of-encode_lower}
use Rattle.net_base.specs.Text.{cut_first, decimal_in}
use Rattle.net_base.specs.declared.ids.SwitchId.{SwitchId}
use Rattle.net_base.proofs.Cuts.{cut_first-at}
use Rattle.net_base.proofs.Decimals.{decimal_in-decimal}
use Rattle.net_base.proofs.MemberLaws.{each_append}
use Rattle.net_base.proofs.NameLaws.{same_switch}
use Rattle.topology.specs.Networks.{Network, switch_named, IsNetwork, IsName}
use Rattle.openflow10.specs.Messages.{BeginsWith, IsMessage, wire_text}
use Rattle.openflow10.specs.declared.Message.{Message}
use Rattle.command_base.specs.Lines.{switch_name}
use Rattle.round_messages.specs.Requests.{Sent}
use Rattle.emit_command.specs.Lines.{line_of}
use Rattle.emit_command.specs.ReadBack.{ReadsAs, AreReadAs}
use Rattle.round_messages.proofs.Requests.{IsSent}
use Rattle.emit_command.proofs.Texts.{AreAbove, lacks, above_more, decimal_above, name_above, hex_above, bytes_wire}
use Rattle.topology.proofs.NamedLaws.{named_again}

each_place : {A : Type 0} (P : A → Type 0) (xs : List A) (i : ℕ) (d : A) → AllByRecursion P xs → i < length xs → P (get_or xs i d)
each_place P [] i d h lt = absurd (omega arith)
each_place P (x ∷ xs) zero d h lt = h.0
each_place P (x ∷ xs) (suc i) d h lt = each_place P xs i d h.1 (omega arith)

-- ---- one line

-- the text of a line, without its end
abbrev words : List ℕ → List ℕ → List ℕ → List ℕ
words number name digits = number ++ 32 ∷ (name ++ 32 ∷ digits)

module _ (net : Network) (is : IsNetwork net) (m : Sent) (h : IsSent net m) where
  number_above : AreAbove 32 (decimal (m.round + 1))
  number_above = let lt = h.round in decimal_above (m.round + 1) (omega arith)

  name_is_above : AreAbove 32 (switch_name net m.switch)
  name_is_above = name_above (switch_name net m.switch) (each_place IsName net.names m.switch.0 [] is.name_forms h.switch).2

  digits_above : AreAbove 32 (encode_lower (wire_text m.message))
  digits_above = hex_above (wire_text m.message) (bytes_wire m.message)

  abbrev own_line : List ℕ
  own_line = words (decimal (m.round + 1)) (switch_name net m.switch) (encode_lower (wire_text m.message))

  line_above : AreAbove 31 own_line
  line_above =
      each_append (λ b. 31 < b) (decimal (m.round + 1)) (32 ∷ (switch_name net m.switch ++ 32 ∷ encode_lower (wire_text m.message))) (above_more 32 31 (decimal (m.round + 1)) (omega arith) number_above) (
        omega arith,
        each_append (λ b. 31 < b) (switch_name net m.switch) (32 ∷ encode_lower (wire_text m.message)) (above_more 32 31 (switch_name net m.switch) (omega arith) name_is_above)
            (omega arith, above_more 32 31 (encode_lower (wire_text m.message)) (omega arith) digits_above),
      )

  whole_message : BeginsWith (wire_text m.message) m.message (length (wire_text m.message))
  whole_message = record { in_range = h.message; count = refl; text = take-length (wire_text m.message) }

  reads_line : ReadsAs net own_line m
  reads_line = record {
    round = decimal (m.round + 1);
    rest = switch_name net m.switch ++ 32 ∷ encode_lower (wire_text m.message);
    name = switch_name net m.switch;
    digits = encode_lower (wire_text m.message);
    bytes = wire_text m.message;
    first_space = cut_first-at 32 (decimal (m.round + 1)) (switch_name net m.switch ++ 32 ∷ encode_lower (wire_text m.message)) (lacks 32 (decimal (m.round + 1)) number_above);
    next_space = cut_first-at 32 (switch_name net m.switch) (encode_lower (wire_text m.message)) (lacks 32 (switch_name net m.switch) name_is_above);
    round_is = let lt = h.round in decimal_in-decimal (m.round + 1) 4294967295 (omega arith) (omega arith);
    switch_is = named_again net.names m.switch.0 is.names h.switch;
    bytes_are = decode_of-encode_lower (wire_text m.message) (bytes_wire m.message);
    message_is = whole_message;
  }

  line_ends : (rest : List ℕ) → line_of net m ++ rest ≡ own_line ++ 10 ∷ rest
  line_ends rest = simp append_assoc

  cut_line : (rest : List ℕ) → cut_first 10 (line_of net m ++ rest) ≡ Some (own_line, rest)
  cut_line rest = ap (cut_first 10) (line_ends rest) ∙ cut_first-at 10 own_line rest (lacks 10 own_line (above_more 31 10 own_line (omega arith) line_above))

pub read_back : (net : Network) → IsNetwork net → (ms : List Sent) → AllByRecursion (IsSent net) ms → AreReadAs net (flat_map (line_of net) ms) ms
read_back net is [] h = refl
read_back net is (m ∷ ms) h =
    (own_line net is m h.0, flat_map (line_of net) ms, cut_line net is m h.0 (flat_map (line_of net) ms), reads_line net is m h.0, read_back net is ms h.1)

-- ---- no other reading

-- no two messages have the same text
abbrev pub OwnTexts : Type 0
OwnTexts = (m n : Message) (xs ys : List ℕ) → IsMessage m → IsMessage n → wire_text m ++ xs ≡ wire_text n ++ ys → m ≡ n

same_message : OwnTexts → (bytes : List ℕ) (m n : Message) → BeginsWith bytes m (length bytes) → BeginsWith bytes n (length bytes) → m ≡ n
same_message own_texts bytes m n p q =
    let e : wire_text m ≡ wire_text n = sym p.text ∙ q.text in
    own_texts m n [] [] p.in_range q.in_range (ap (λ t. t ++ []) e)

same_sent : (m n : Sent) → m.round ≡ n.round → m.switch ≡ n.switch → m.message ≡ n.message → m ≡ n
same_sent m n a b c =
    ap (λ (k : ℕ). let x : Sent = record { round = k; switch = m.switch; message = m.message } in x) a
    ∙ ap (λ (s : SwitchId). let x : Sent = record { round = n.round; switch = s; message = m.message } in x) b
    ∙ ap (λ (w : Message). let x : Sent = record { round = n.round; switch = n.switch; message = w } in x) c

same_line : OwnTexts → (net : Network) (line : List ℕ) (m n : Sent) → ReadsAs net line m → ReadsAs net line n → m ≡ n
same_line own_texts net line m n p q =
    let first = same_Some _ _ (sym p.first_space ∙ q.first_space) in
    let round : p.round ≡ q.round = ap (λ x. x.0) first in
    let rest : p.rest ≡ q.rest = ap (λ x. x.1) first in
    let next = same_Some _ _ (sym p.next_space ∙ ap (cut_first 32) rest ∙ q.next_space) in
    let name : p.name ≡ q.name = ap (λ x. x.0) next in
    let digits : p.digits ≡ q.digits = ap (λ x. x.1) next in
    let number : m.round + 1 ≡ n.round + 1 = same_Some _ _ (sym p.round_is ∙ ap (λ t. decimal_in t 4294967295) round ∙ q.round_is) in
    let switch : m.switch.0 ≡ n.switch.0 = same_Some _ _ (sym p.switch_is ∙ ap (switch_named net.names) name ∙ q.switch_is) in
    let bytes : p.bytes ≡ q.bytes = ap (λ (r : Result (List ℕ) FromHexError). result_unwrap_or r []) (sym p.bytes_are ∙ ap decode_of digits ∙ q.bytes_are) in
    same_sent m n (omega arith) (same_switch m.switch n.switch switch)
    (same_message own_texts q.bytes m.message n.message (subst (λ bs. BeginsWith bs m.message (length bs)) bytes p.message_is) q.message_is)

no_line : {A : Type 0} (text line rest : List ℕ) → text ≡ [] → cut_first 10 text ≡ Some (line, rest) → A
no_line text line rest empty cut = absurd (let e : None ≡ Some (line, rest) = ap (cut_first 10) (sym empty) ∙ cut in cc)

pub read_once : OwnTexts → (net : Network) (text : List ℕ) (ms ns : List Sent) → AreReadAs net text ms → AreReadAs net text ns → ms ≡ ns
read_once own_texts net text [] [] p q = refl
read_once own_texts net text [] (n ∷ ns) p (line, rest, cut, reads, more) = no_line text line rest p cut
read_once own_texts net text (m ∷ ms) [] (line, rest, cut, reads, more) q = no_line text line rest q cut
read_once own_texts net text (m ∷ ms) (n ∷ ns) (line, rest, cut, reads, more) (others, tail, there, found, after) =
    let same = same_Some _ _ (sym cut ∙ there) in
    let one : line ≡ others = ap (λ x. x.0) same in
    let behind : rest ≡ tail = ap (λ x. x.1) same in
    ap (λ (x : Sent). x ∷ ms) (same_line own_texts net others m n (subst (λ l. ReadsAs net l m) one reads) found)
    ∙ ap (λ xs. n ∷ xs) (read_once own_texts net tail ms ns (subst (λ t. AreReadAs net t ms) behind more) after)
