-- What of a driver's words comes to a switch, and how often they settle a round.
use Rattle.std.proofs.Common.{◌≡◌, ℕ, suc, ◌+◌, Bool, true, false, cond, List, [], ◌∷◌, ◌++◌, length, map, refl, sym, ◌∙◌, ap, arith}
use Rattle.std.specs.Prelude.{Option, Some, None, filter, filter_map}
use Rattle.std.specs.List.{cons_option}
use Rattle.std.proofs.lemmas.List.Elements.{filter_map-append}
use Rattle.net_base.specs.declared.ids.SwitchId.{SwitchId}
use Rattle.update_model.specs.declared.Change.{Change}
use Rattle.openflow10.specs.declared.Message.{Message}
use Rattle.turned_rounds.specs.declared.outgoing.Outgoing.{Outgoing}
use Rattle.two_way_driver.specs.Drivers.{send_if, sends, is_to, log_if, change_notes, undo_notes}
use Rattle.two_way_driver.specs.Sending.{text_to, texts_to}
use Rattle.two_way_driver.specs.declared.DriverEvent.TheVariants as logged
use Rattle.two_way_driver.specs.declared.DriverOutput.{DriverOutput}
use Rattle.law_wire.specs.Network.{inbox_message, arriving, is_settling, settles_in}
use Rattle.law_wire.proofs.Batch.{coming}

pub arriving-append : (s : SwitchId) (a b : List DriverOutput) → arriving s (a ++ b) ≡ arriving s a ++ arriving s b
arriving-append s a b = ap (filter_map inbox_message) (filter_map-append (text_to s) a b) ∙ filter_map-append inbox_message (texts_to s a) (texts_to s b)

pub settles-append : (a b : List DriverOutput) → settles_in (a ++ b) ≡ settles_in a + settles_in b
settles-append [] b = omega arith
settles-append (w ∷ a) b =
    let rest = settles-append a b in
    elim (is_settling w) as (λ t. length (cond t (w ∷ filter is_settling (a ++ b)) (filter is_settling (a ++ b))) ≡ length (cond t (w ∷ filter is_settling a) (filter is_settling a)) + settles_in b) [
      | true ↦ omega arith
      | false ↦ rest
    ]

-- words that neither send anything that comes to an inbox nor settle a round
pub record IsQuiet (words : List DriverOutput) : Type 0 where
  pub none_come : (s : SwitchId) → arriving s words ≡ []
  pub none_settle : settles_in words ≡ 0

pub quiet_both : (a b : List DriverOutput) → IsQuiet a → IsQuiet b → IsQuiet (a ++ b)
quiet_both a b x y = record {
  none_come = λ s. arriving-append s a b ∙ ap (λ l. l ++ arriving s b) (x.none_come s) ∙ y.none_come s;
  none_settle = (let both = settles-append a b in let i = x.none_settle in let j = y.none_settle in omega arith);
}

quiet_none : IsQuiet []
quiet_none = record { none_come = λ s. refl; none_settle = refl }

quiet_change : (on : Bool) (i : ℕ) → IsQuiet (log_if on (logged.Change i))
quiet_change true i = record { none_come = λ s. refl; none_settle = refl }
quiet_change false i = quiet_none

quiet_undo : (on : Bool) (i : ℕ) → IsQuiet (log_if on (logged.Undo i))
quiet_undo true i = record { none_come = λ s. refl; none_settle = refl }
quiet_undo false i = quiet_none

pub quiet_changes : (wanted : Change → Bool) (i : ℕ) (changes : List Change) → IsQuiet (change_notes wanted i changes)
quiet_changes wanted i [] = quiet_none
quiet_changes wanted i (c ∷ changes) =
    quiet_both (log_if (wanted c) (logged.Change i)) (change_notes wanted (suc i) changes) (quiet_change (wanted c) i) (quiet_changes wanted (suc i) changes)

pub quiet_undos : (wanted : Change → Bool) (i : ℕ) (changes : List Change) → IsQuiet (undo_notes wanted i changes)
quiet_undos wanted i [] = quiet_none
quiet_undos wanted i (c ∷ changes) =
    quiet_both (undo_notes wanted (suc i) changes) (log_if (wanted c) (logged.Undo i)) (quiet_undos wanted (suc i) changes) (quiet_undo (wanted c) i)

-- of messages that are sent, those to a switch come to it, where they are wanted
module _ (s : SwitchId) (wanted : Outgoing → Bool) (b : Bool) where
  pub sends_come : (ms : List Outgoing) → ((m : Outgoing) → is_to s m ≡ true → wanted m ≡ b) → arriving s (sends wanted ms) ≡ cond b (coming s ms) []
  sends_come [] same = none b
    where
      none : (b : Bool) → [] ≡ cond b (coming s []) []
      none true = refl
      none false = refl
  sends_come (m ∷ ms) same =
      arriving-append s (send_if (wanted m) m) (sends wanted ms)
      ∙ ap (λ l. arriving s (send_if (wanted m) m) ++ l) (sends_come ms same)
      ∙ one (is_to s m) (wanted m) refl refl
    where
      one : (here w : Bool) → is_to s m ≡ here → wanted m ≡ w → arriving s (send_if (wanted m) m) ++ cond b (coming s ms) [] ≡ cond b (coming s (m ∷ ms)) []
      one true w at is =
          let wants : wanted m ≡ b = same m at in
          let Sent : Bool → List Message = λ t. arriving s (send_if t m) in
          let Text : Bool → List Message = λ t. filter_map inbox_message (cons_option (cond t (Some m.text) None) []) in
          let More : Bool → List Message = λ t. filter_map inbox_message (map (λ (o : Outgoing). o.text) (cond t (m ∷ filter (is_to s) ms) (filter (is_to s) ms))) in
          ap (λ t. Sent t ++ cond b (coming s ms) []) wants ∙ by b at
        where
          by : (b : Bool) → is_to s m ≡ true → arriving s (send_if b m) ++ cond b (coming s ms) [] ≡ cond b (coming s (m ∷ ms)) []
          by true at =
              ap (λ t. filter_map inbox_message (cons_option (cond t (Some m.text) None) []) ++ coming s ms) at
              ∙ joined (inbox_message m.text)
              ∙ sym (ap (λ t. filter_map inbox_message (map (λ (o : Outgoing). o.text) (cond t (m ∷ filter (is_to s) ms) (filter (is_to s) ms)))) at)
            where
              joined : (o : Option Message) → cons_option o [] ++ coming s ms ≡ cons_option o (coming s ms)
              joined None = refl
              joined (Some r) = refl
          by false at = refl
      one false w at is = ap (λ t. arriving s (send_if t m) ++ cond b (coming s ms) []) is ∙ past w ∙ sym (ap (λ t. cond b (filter_map inbox_message (map (λ (o : Outgoing). o.text) (cond t (m ∷ filter (is_to s) ms) (filter (is_to s) ms)))) []) at)
        where
          past : (w : Bool) → arriving s (send_if w m) ++ cond b (coming s ms) [] ≡ cond b (coming s ms) []
          past true = ap (λ t. filter_map inbox_message (cons_option (cond t (Some m.text) None) []) ++ cond b (coming s ms) []) at
          past false = refl

pub no_settle : (wanted : Outgoing → Bool) (ms : List Outgoing) → settles_in (sends wanted ms) ≡ 0
no_settle wanted [] = refl
no_settle wanted (m ∷ ms) =
    let rest = no_settle wanted ms in
    let both = settles-append (send_if (wanted m) m) (sends wanted ms) in
    let first : settles_in (send_if (wanted m) m) ≡ 0 = one (wanted m) in
    omega arith
  where
    one : (b : Bool) → settles_in (send_if b m) ≡ 0
    one true = refl
    one false = refl
