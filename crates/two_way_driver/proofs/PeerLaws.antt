-- What is kept of the switches: what each has to answer, and whether its changes are in force.
use Rattle.std.proofs.Common.{◌≡◌, ◌⊎◌, ℕ, zero, suc, ◌+◌, ◌<◌, Bool, true, false, not, eqb, ◌&&◌, ◌||◌, map, List, [], ◌∷◌, ◌++◌, length, replicate, get_or, refl, sym, ap, ◌∙◌, subst, inl, inr, arith}
use Rattle.std.specs.Prelude.{slice_get, Option, Some, None, is_some, is_none}
use Rattle.std.specs.List.{AllByRecursion}
use Rattle.std.proofs.lemmas.Bool.{cond_both, eq-eqb}
use Rattle.std.proofs.lemmas.Option.{slice_get_within, slice_get-get_or}
use Rattle.std.proofs.lemmas.List.Elements.{filter_map-append}
use Rattle.std.proofs.lemmas.List.Folds.{list_any_at}
use Rattle.update_model.specs.Changes.{switch_of, round_after}
use Rattle.update_model.specs.declared.Change.{Change}
use Rattle.round_messages.specs.Requests.{is_changed, switch_numbered}
use Rattle.switch_session.specs.Channels.{ChannelState, first_channel, is_open, after_request}
use Rattle.turned_rounds.specs.Batches.{next_if}
use Rattle.turned_rounds.specs.declared.outgoing.Outgoing.{Outgoing}
use Rattle.two_way_driver.specs.PeerStates.{PeerState}
use Rattle.two_way_driver.specs.Peers.{first_peer, queued_peer, asks, asks_again, reopened_peer, dead_peer, settled_peer}
use Rattle.two_way_driver.specs.Drivers.{send_if, sends, asks_if, asked_from, all_answered, first_words}
use Rattle.two_way_driver.specs.Laws.{event_in, events_in}
use Rattle.two_way_driver.specs.declared.Stage.{Stage}
use Rattle.two_way_driver.specs.declared.Stage.TheVariants.{Settled, Onward, Undone}

-- ---- lists

-- where all is answered a switch that isn't dead is asked nothing
pub all_at : (peers : List PeerState) (i : ℕ) → all_answered peers ≡ true → (get_or peers i first_peer).is_dead ≡ false → (get_or peers i first_peer).asked ≡ None
all_at [] i all alive = refl
all_at (p ∷ peers) zero all alive = none_from p.asked p.is_dead (all_answered peers) all alive
  where
    none_from : (o : Option ℕ) (dead b : Bool) → ((is_none o || dead) && b) ≡ true → dead ≡ false → o ≡ None
    none_from None dead b e a = refl
    none_from (Some x) true b e a = absurd (let f : true ≡ false = a in cc)
    none_from (Some x) false b e a = absurd (let f : false ≡ true = e in cc)
all_at (p ∷ peers) (suc i) all alive = all_at peers i (rest_from (is_none p.asked || p.is_dead) (all_answered peers) all) alive
  where
    rest_from : (a b : Bool) → (a && b) ≡ true → b ≡ true
    rest_from true b e = e
    rest_from false b e = absurd (let f : false ≡ true = e in cc)

-- flags that are alike at the place of each change
pub all_alike : (value : Bool) (flags : List Bool) (round : List Change) → length flags ≡ length round → ((i : ℕ) (c : Change) → slice_get round i ≡ Some c → slice_get flags i ≡ Some value)
    → AllByRecursion (λ b. b ≡ value) flags
all_alike value [] round e h = tt
all_alike value (b ∷ flags) [] e h = absurd (omega arith)
all_alike value (b ∷ flags) (c ∷ round) e h =
    ((let f : Some b ≡ Some value = h 0 c refl in cc), all_alike value flags round (omega arith) (λ i d at. h (suc i) d at))

pub changed_at : (round : List Change) (i : ℕ) (c : Change) → slice_get round i ≡ Some c → is_changed round (switch_of c) ≡ true
changed_at round i c at =
    let less = slice_get_within round i c at in
    let f : Some (get_or round i c) ≡ Some c = sym (slice_get-get_or round i c less) ∙ at in
    let g : get_or round i c ≡ c = cc in
    list_any_at (λ (x : Change). eqb (switch_of x).0 (switch_of c).0) round i c less (ap (λ (x : Change). eqb (switch_of x).0 (switch_of c).0) g ∙ eq-eqb (switch_of c).0 (switch_of c).0 refl)

pub each_got : {A : Type 0} (P : A → Type 0) (xs : List A) (i : ℕ) (x : A) → AllByRecursion P xs → slice_get xs i ≡ Some x → P x
each_got P [] i x all at = absurd (let f : None ≡ Some x = at in cc)
each_got P (y ∷ xs) zero x all at = let f : Some y ≡ Some x = at in let g : y ≡ x = cc in subst P g all.0
each_got P (y ∷ xs) (suc i) x all at = each_got P xs i x all.1 at

pub each_round : (P : Change → Type 0) (rounds : List (List Change)) (k : ℕ) → AllByRecursion (AllByRecursion P) rounds → AllByRecursion P (round_after k rounds)
each_round P [] k all = tt
each_round P (round ∷ rounds) zero all = all.0
each_round P (round ∷ rounds) (suc k) all = each_round P rounds k all.1

pub get_replicate : (n i : ℕ) (b : Bool) → i < n → get_or (replicate n b) i false ≡ b
get_replicate zero i b less = absurd (omega arith)
get_replicate (suc n) zero b less = refl
get_replicate (suc n) (suc i) b less = get_replicate n i b (omega arith)

pub got_replicate : (round : List Change) (i : ℕ) (c : Change) (b : Bool) → slice_get round i ≡ Some c → slice_get (replicate (length round) b) i ≡ Some b
got_replicate [] i c b at = absurd (let f : None ≡ Some c = at in cc)
got_replicate (d ∷ round) zero c b at = refl
got_replicate (d ∷ round) (suc i) c b at = got_replicate round i c b at

-- messages are no events
pub sends_no_event : (wanted : Outgoing → Bool) (ms : List Outgoing) → events_in (sends wanted ms) ≡ []
sends_no_event wanted [] = refl
sends_no_event wanted (m ∷ ms) = filter_map-append event_in (send_if (wanted m) m) (sends wanted ms) ∙ one (wanted m) ∙ sends_no_event wanted ms
  where
    one : (b : Bool) → events_in (send_if b m) ++ events_in (sends wanted ms) ≡ events_in (sends wanted ms)
    one true = refl
    one false = refl

pub words_no_event : (n count : ℕ) → events_in (first_words n count) ≡ []
words_no_event n zero = refl
words_no_event n (suc count) = words_no_event (suc n) count

pub asked_at : (round : List Change) (x n : ℕ) (peers : List PeerState) (i : ℕ) → i < length peers
    → (y : ℕ) × (get_or (asked_from x round n peers) i first_peer ≡ asks_if (is_changed round (switch_numbered (n + i))) y (get_or peers i first_peer))
asked_at round x n [] i less = absurd (omega arith)
asked_at round x n (p ∷ peers) zero less = (x, (let same : n ≡ n + zero = omega arith in ap (λ (j : ℕ). asks_if (is_changed round (switch_numbered j)) x p) same))
asked_at round x n (p ∷ peers) (suc i) less =
    let next = next_if (is_changed round (switch_numbered n)) x in
    let (y, e) = asked_at round next (suc n) peers i (omega arith) in
    let same : suc n + i ≡ n + suc i = omega arith in
    (y, e ∙ ap (λ (j : ℕ). asks_if (is_changed round (switch_numbered j)) y (get_or peers i first_peer)) same)

-- where two tests aren't both true one is false
pub and_off : (a b : Bool) → (a && b) ≡ false → (a ≡ false) ⊎ (b ≡ false)
and_off true b e = inr e
and_off false b e = inl refl

pub and_second : (a b : Bool) → (a && b) ≡ true → b ≡ true
and_second true b e = e
and_second false b e = absurd (let f : false ≡ true = e in cc)

pub not_off : (b : Bool) → not b ≡ false → b ≡ true
not_off true e = refl
not_off false e = absurd (let f : true ≡ false = e in cc)

pub not_on : (b : Bool) → not b ≡ true → b ≡ false
not_on false e = refl
not_on true e = absurd (let f : false ≡ true = e in cc)

-- ---- one switch

-- which of its barrier requests a switch has to answer, and whether its changes are in force, by how the round goes
abbrev pub PeerWaits : Stage → Bool → PeerState → Bool → Type 0
PeerWaits (Settled k) changed p flag = p.asked ≡ None
PeerWaits (Onward k) changed p flag = (p.behind ≡ None) × (is_some p.asked ≡ true → flag ≡ false) × (changed ≡ true → p.asked ≡ None → flag ≡ true)
PeerWaits (Undone k) changed p flag = (is_some p.behind ≡ true → flag ≡ false) × (changed ≡ true → p.asked ≡ None → flag ≡ false)

-- nothing was sent to a dead switch
abbrev pub IsGone : PeerState → Type 0
IsGone p = p.is_dead ≡ true → (p.channel ≡ first_channel) × (p.behind ≡ None)

pub record PeerFits (stage : Stage) (changed : Bool) (p : PeerState) (flag : Bool) : Type 0 where
  pub free : p.asked ≡ None → (p.channel.outstanding ≡ None) × (p.behind ≡ None)
  pub waits : PeerWaits stage changed p flag
  pub gone : IsGone p

pub none_some : {A : Type 0} (o : Option A) → is_some o ≡ true → o ≡ None → ⊥
none_some None e f = let g : false ≡ true = e in cc
none_some (Some x) e f = let g : Some x ≡ None = f in cc

-- a barrier request that is outstanding is one that waits
pub outstanding_waits : (p : PeerState) → (p.asked ≡ None → (p.channel.outstanding ≡ None) × (p.behind ≡ None)) → is_some p.channel.outstanding ≡ true → is_some p.asked ≡ true
outstanding_waits p free some = go p.asked refl
  where
    go : (o : Option ℕ) → p.asked ≡ o → is_some p.asked ≡ true
    go None e = absurd (none_some p.channel.outstanding some (free e).0)
    go (Some x) e = ap is_some e

pub queued_asked : (x : ℕ) (p : PeerState) → (queued_peer x p).asked ≡ p.asked
queued_asked x p = cond_both (is_some p.channel.outstanding) (record p { behind = Some x }) (record p { channel = after_request [] x p.channel }) (λ (q : PeerState). q.asked ≡ p.asked) (λ e. refl) (λ e. refl)

pub asks_asked : (x : ℕ) (p : PeerState) → (asks x p).asked ≡ Some x
unfolding asks
asks_asked x p = cond_both (is_open p.channel.session) (queued_peer x (record p { asked = Some x })) (record p { asked = Some x }) (λ (q : PeerState). q.asked ≡ Some x) (λ e. queued_asked x (record p { asked = Some x })) (λ e. refl)

-- behind the outstanding request stands one only where one was outstanding
pub asks_behind : (x : ℕ) (p : PeerState) → p.behind ≡ None → ((asks x p).behind ≡ None) ⊎ (is_some p.channel.outstanding ≡ true)
unfolding asks
asks_behind x p none =
    let q : PeerState = record p { asked = Some x } in
    let Here : PeerState → Type 0 = λ (r : PeerState). (r.behind ≡ None) ⊎ (is_some p.channel.outstanding ≡ true) in
    cond_both (is_open p.channel.session) (queued_peer x q) q Here
    (λ e. cond_both (is_some p.channel.outstanding) (record q { behind = Some x }) (record q { channel = after_request [] x p.channel }) Here (λ t. inr t) (λ t. inl none)) (λ e. inl none)

pub queued_dead : (x : ℕ) (p : PeerState) → (queued_peer x p).is_dead ≡ p.is_dead
queued_dead x p =
    cond_both (is_some p.channel.outstanding) (record p { behind = Some x }) (record p { channel = after_request [] x p.channel }) (λ (q : PeerState). q.is_dead ≡ p.is_dead) (λ e. refl) (λ e. refl)

-- a dead switch has no open session, so nothing is sent to it
pub asks_gone : (x : ℕ) (p : PeerState) → IsGone p → IsGone (asks x p)
unfolding asks
asks_gone x p gone =
    let q : PeerState = record p { asked = Some x } in
    cond_both (is_open p.channel.session) (queued_peer x q) q IsGone
    (λ on dead.
    let (first, alone) = gone (sym (queued_dead x q) ∙ dead) in
    let closed : true ≡ false = sym on ∙ ap (λ (c : ChannelState). is_open c.session) first in
    absurd (cc))
    (λ off. gone)

pub fits_asked : (stage : Stage) (changed flag : Bool) (x : ℕ) (p : PeerState) → IsGone p → PeerWaits stage changed (asks x p) flag → PeerFits stage changed (asks x p) flag
fits_asked stage changed flag x p gone waits = record { free = λ e. absurd (let f : Some x ≡ None = sym (asks_asked x p) ∙ e in cc); waits = waits; gone = asks_gone x p gone }

-- what is kept of a switch behind a settling
pub settled_at : (peers : List PeerState) (i : ℕ) → get_or (map settled_peer peers) i first_peer ≡ settled_peer (get_or peers i first_peer)
settled_at [] i = refl
settled_at (p ∷ peers) zero = refl
settled_at (p ∷ peers) (suc i) = settled_at peers i

pub fits_settled : (stage : Stage) (k : ℕ) (changed flag : Bool) (p : PeerState) → (p.is_dead ≡ false → p.asked ≡ None) → PeerFits stage changed p flag → (now : Bool) → PeerFits (Settled k) now (settled_peer p) flag
fits_settled stage k changed flag p all fit now =
    cond_both p.is_dead (record p { asked = None }) p (λ (q : PeerState). PeerFits (Settled k) now q flag)
    (λ dead. let (first, alone) = fit.gone dead in record { free = λ e. (ap (λ (c : ChannelState). c.outstanding) first, alone); waits = refl; gone = fit.gone })
    (λ alive. record { free = fit.free; waits = all alive; gone = fit.gone })

pub never : false ≡ true → ⊥
never e = cc

pub fits_reopened : (stage : Stage) (changed flag : Bool) (p : PeerState) → PeerFits stage changed p flag → PeerFits stage changed (reopened_peer p) flag
fits_reopened (Settled k) changed flag p fit = record { free = λ e. (refl, refl); waits = fit.waits; gone = λ t. absurd (never t) }
fits_reopened (Onward k) changed flag p fit = record { free = λ e. (refl, refl); waits = (refl, fit.waits.1, fit.waits.2); gone = λ t. absurd (never t) }
fits_reopened (Undone k) changed flag p fit = record { free = λ e. (refl, refl); waits = ((λ t. absurd (never t)), fit.waits.1); gone = λ t. absurd (never t) }

pub fits_dead : (stage : Stage) (changed flag : Bool) (p : PeerState) → PeerFits stage changed p flag → PeerFits stage changed (dead_peer p) flag
fits_dead (Settled k) changed flag p fit = record { free = λ e. (refl, refl); waits = fit.waits; gone = λ t. (refl, refl) }
fits_dead (Onward k) changed flag p fit = record { free = λ e. (refl, refl); waits = (refl, fit.waits.1, fit.waits.2); gone = λ t. (refl, refl) }
fits_dead (Undone k) changed flag p fit = record { free = λ e. (refl, refl); waits = ((λ t. absurd (never t)), fit.waits.1); gone = λ t. (refl, refl) }

pub fits_again : (stage : Stage) (changed flag : Bool) (x : ℕ) (p : PeerState) → p.asked ≡ Some x → p.is_dead ≡ false → PeerFits stage changed p flag → PeerFits stage changed (asks_again x p) flag
fits_again (Settled k) changed flag x p is alive fit = absurd (let g : Some x ≡ None = sym is ∙ fit.waits in cc)
fits_again (Onward k) changed flag x p is alive fit = record {
  free = λ e. absurd (let g : Some x ≡ None = sym is ∙ e in cc);
  waits = (refl, fit.waits.1, fit.waits.2);
  gone = λ t. absurd (never (sym alive ∙ t));
}
fits_again (Undone k) changed flag x p is alive fit = record {
  free = λ e. absurd (let g : Some x ≡ None = sym is ∙ e in cc);
  waits = ((λ t. absurd (never t)), fit.waits.1);
  gone = λ t. absurd (never (sym alive ∙ t));
}

-- a switch to which nothing is outstanding has nothing behind what it is asked
pub alone_behind : (y : ℕ) (p : PeerState) → p.channel.outstanding ≡ None → p.behind ≡ None → (asks y p).behind ≡ None
alone_behind y p none alone = elim (asks_behind y p alone) [ inl e ↦ e | inr t ↦ absurd (none_some p.channel.outstanding t none) ]

pub not_asked : (y : ℕ) (p : PeerState) → (asks y p).asked ≡ None → ⊥
not_asked y p e = let g : Some y ≡ None = sym (asks_asked y p) ∙ e in cc
