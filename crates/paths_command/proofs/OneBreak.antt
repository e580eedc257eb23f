-- A path breaks duties in one way only.
use Rattle.std.proofs.Common.{◌≡◌, ℕ, List, [], ◌∷◌, ◌++◌, map, sym, ◌∙◌, subst, ap, inl, inr, append_assoc, append-nil}
use Rattle.std.specs.List.{AllByRecursion}
use Rattle.net_base.specs.Members.{IsIn, IsDistinct, IsSubsequence}
use Rattle.net_base.specs.Walks.{IsWalk}
use Rattle.net_base.specs.Places.{stop_of}
use Rattle.net_base.proofs.MemberLaws.{in_append_right, map-push}
use Rattle.net_base.specs.declared.ids.SwitchId.{SwitchId}
use Rattle.net_base.specs.declared.ids.Place.{Place}
use Rattle.net_base.specs.declared.ids.Stop.{Stop}
use Rattle.topology.specs.Networks.{Network}
use Rattle.flow_rules.specs.declared.rules.Rule.{Rule}
use Rattle.path_walk.specs.Paths.{Trace, Forwards}
use Rattle.path_walk.specs.Walked.{ComesAgain}
use Rattle.path_walk.specs.declared.Ended.TheVariants as end
use Rattle.path_walk.specs.declared.Outcome.TheVariants.{Go}
use Rattle.path_walk.proofs.PathLaws.{path_one, path_begins}
use Rattle.path_walk.proofs.WalkedLaws.{along, switches_along}
use Rattle.demands.specs.Duties.{PacketDuties}
use Rattle.demands.specs.Good.{switches_of}
use Rattle.demands.proofs.DutyLaws.{distinct_prefix}
use Rattle.config_check.specs.Broken.{EndsSo, IsLeft, MissesAt, BreaksSo}
use Rattle.config_check.specs.declared.How.{How}
use Rattle.config_check.specs.declared.How.TheVariants.{Loop, Dropped, Missed}
use Rattle.config_check.proofs.ChainLaws.{first_part}

-- a member of the front of distinct members doesn't come later
apart : (front : List SwitchId) (x : SwitchId) (back : List SwitchId) → IsDistinct (front ++ x ∷ back) → ¬ IsIn x front
apart [] x back distinct i = i
apart (y ∷ front) x back distinct (inl e) = distinct.0 (in_append_right y front (x ∷ back) (inl (sym e)))
apart (y ∷ front) x back distinct (inr i) = apart front x back distinct.1 i

-- two walks of the same tables that each go on to the first switch that comes again
module _ (net : Network) (tables : List (List Rule)) (dst : ℕ) where
  same_next : (start one other : Place) → Forwards net tables dst start one → Forwards net tables dst start other → one ≡ other
  same_next start one other e f = let g : Go one ≡ Go other = sym e ∙ f in cc

  -- the switches visited before the start, and the rest of both walks
  same_again : (seen : List SwitchId) (start : Place) (xs ys : List Place) (a b : Place)
      → IsWalk (Forwards net tables dst) start (xs ++ a ∷ []) → IsWalk (Forwards net tables dst) start (ys ++ b ∷ [])
      → IsDistinct (seen ++ along xs) → IsDistinct (seen ++ along ys) → IsIn a.switch (seen ++ along xs) → IsIn b.switch (seen ++ along ys) → a ≡ b
  same_again seen start [] [] a b first second one two here there = same_next start a b first.0 second.0
  same_again seen start [] (y ∷ ys) a b first second one two here there =
      let same = same_next start a y first.0 second.0 in
      absurd (apart seen y.switch (along ys) two (subst (λ (p : Place). IsIn p.switch seen) same (subst (λ s. IsIn a.switch s) (append-nil seen) here)))
  same_again seen start (x ∷ xs) [] a b first second one two here there =
      let same = same_next start b x second.0 first.0 in
      absurd (apart seen x.switch (along xs) one (subst (λ (p : Place). IsIn p.switch seen) same (subst (λ s. IsIn b.switch s) (append-nil seen) there)))
  same_again seen start (x ∷ xs) (y ∷ ys) a b first second one two here there =
      let same = same_next start x y first.0 second.0 in
      let more = seen ++ x.switch ∷ [] in
      let left : (zs : List SwitchId) → seen ++ x.switch ∷ zs ≡ more ++ zs = λ zs. sym (append_assoc seen (x.switch ∷ []) zs) in
      let right : (zs : List SwitchId) → seen ++ y.switch ∷ zs ≡ more ++ zs = λ zs. subst (λ (p : Place). seen ++ p.switch ∷ zs ≡ more ++ zs) same (left zs) in
      same_again more x xs ys a b first.1 (subst (λ (p : Place). IsWalk (Forwards net tables dst) p (ys ++ b ∷ [])) (sym same) second.1)
      (subst IsDistinct (left (along xs)) one) (subst IsDistinct (right (along ys)) two)
      (subst (λ s. IsIn a.switch s) (left (along xs)) here) (subst (λ s. IsIn b.switch s) (right (along ys)) there)

  -- the switch that comes again is one
  loop_one : (entry : Place) (xs ys : List Stop) (s t : SwitchId) → ComesAgain net tables entry dst xs s → ComesAgain net tables entry dst ys t → s ≡ t
  loop_one entry xs ys s t one two =
      let same = same_again (entry.switch ∷ []) entry one.front two.front one.again two.again one.walk two.walk one.distinct two.distinct one.seen two.seen in
      sym one.is ∙ ap (λ (p : Place). p.switch) same ∙ two.is

  -- a path that ends comes to no switch again
  no_loop : (entry : Place) (trace : Trace) (stops : List Stop) (s : SwitchId) → EndsSo net tables dst entry trace → ComesAgain net tables entry dst stops s → ⊥
  no_loop entry trace stops s ends loops =
      let places = entry ∷ loops.front ++ loops.again ∷ [] in
      let front = path_begins net tables entry dst (loops.front ++ loops.again ∷ []) trace loops.walk ends.path in
      let once : IsDistinct (along places) = subst IsDistinct (switches_along places) (distinct_prefix (map stop_of places) trace.stops front ends.distinct) in
      let split : along places ≡ along (entry ∷ loops.front) ++ loops.again.switch ∷ [] = map-push (λ (p : Place). p.switch) (entry ∷ loops.front) loops.again in
      apart (along (entry ∷ loops.front)) loops.again.switch [] (subst IsDistinct split once) loops.seen

-- two members of one list, each behind its front: one front goes on behind the other's member, or they are the same
data Forks (fs : List SwitchId) (w : SwitchId) (gs : List SwitchId) (v : SwitchId) : Type 0 where
  Same : w ≡ v → Forks fs w gs v
  Later : (rest : List SwitchId) → gs ≡ (fs ++ w ∷ []) ++ rest → Forks fs w gs v
  Earlier : (rest : List SwitchId) → fs ≡ (gs ++ v ∷ []) ++ rest → Forks fs w gs v

forks : (fs bs gs cs : List SwitchId) (w v : SwitchId) → fs ++ w ∷ bs ≡ gs ++ v ∷ cs → Forks fs w gs v
forks [] bs [] cs w v e = Same (let g : w ∷ bs ≡ v ∷ cs = e in cc)
forks [] bs (y ∷ gs) cs w v e = Later gs (let g : w ∷ bs ≡ y ∷ (gs ++ v ∷ cs) = e in let h : y ≡ w = cc in ap (λ z. z ∷ gs) h)
forks (x ∷ fs) bs [] cs w v e = Earlier fs (let g : x ∷ (fs ++ w ∷ bs) ≡ v ∷ cs = e in let h : x ≡ v = cc in ap (λ z. z ∷ fs) h)
forks (x ∷ fs) bs (y ∷ gs) cs w v e =
    let g : x ∷ (fs ++ w ∷ bs) ≡ y ∷ (gs ++ v ∷ cs) = e in
    let first : x ≡ y = cc in
    let rest : fs ++ w ∷ bs ≡ gs ++ v ∷ cs = cc in
    elim (forks fs bs gs cs w v rest) [
      | Same h ↦ Same h
      | Later more h ↦ Later more (ap (λ z. z ∷ gs) (sym first) ∙ ap (λ zs. x ∷ zs) h)
      | Earlier more h ↦ Earlier more (ap (λ z. z ∷ fs) first ∙ ap (λ zs. y ∷ zs) h)
    ]

-- the first waypoint that isn't met is one
waypoint_one : (switches fs bs gs cs : List SwitchId) (w v : SwitchId) → fs ++ w ∷ bs ≡ gs ++ v ∷ cs → IsSubsequence fs switches → ¬ IsSubsequence (fs ++ w ∷ []) switches
    → IsSubsequence gs switches → ¬ IsSubsequence (gs ++ v ∷ []) switches → w ≡ v
waypoint_one switches fs bs gs cs w v e fs_met w_missed gs_met v_missed =
    elim (forks fs bs gs cs w v e) [
      | Same h ↦ h
      | Later more h ↦ absurd (w_missed (first_part (fs ++ w ∷ []) more switches (subst (λ xs. IsSubsequence xs switches) h gs_met)))
      | Earlier more h ↦ absurd (v_missed (first_part (gs ++ v ∷ []) more switches (subst (λ xs. IsSubsequence xs switches) h fs_met)))
    ]

-- so is the first chain
chains_one : (switches : List SwitchId) (es ds : List (List SwitchId)) (fs bs gs cs : List SwitchId) (ls ms : List (List SwitchId)) (w v : SwitchId)
    → es ++ (fs ++ w ∷ bs) ∷ ls ≡ ds ++ (gs ++ v ∷ cs) ∷ ms
    → AllByRecursion (λ chain. IsSubsequence chain switches) es → AllByRecursion (λ chain. IsSubsequence chain switches) ds
    → IsSubsequence fs switches → ¬ IsSubsequence (fs ++ w ∷ []) switches → IsSubsequence gs switches → ¬ IsSubsequence (gs ++ v ∷ []) switches → w ≡ v
chains_one switches [] [] fs bs gs cs ls ms w v e first second fs_met w_missed gs_met v_missed =
    let g : (fs ++ w ∷ bs) ∷ ls ≡ (gs ++ v ∷ cs) ∷ ms = e in
    let same : fs ++ w ∷ bs ≡ gs ++ v ∷ cs = cc in
    waypoint_one switches fs bs gs cs w v same fs_met w_missed gs_met v_missed
chains_one switches [] (d ∷ ds) fs bs gs cs ls ms w v e first second fs_met w_missed gs_met v_missed =
    let g : (fs ++ w ∷ bs) ∷ ls ≡ d ∷ (ds ++ (gs ++ v ∷ cs) ∷ ms) = e in
    let same : d ≡ fs ++ w ∷ bs = cc in
    let all : d ≡ (fs ++ w ∷ []) ++ bs = same ∙ sym (append_assoc fs (w ∷ []) bs) in
    absurd (w_missed (first_part (fs ++ w ∷ []) bs switches (subst (λ xs. IsSubsequence xs switches) all second.0)))
chains_one switches (d ∷ es) [] fs bs gs cs ls ms w v e first second fs_met w_missed gs_met v_missed =
    let g : d ∷ (es ++ (fs ++ w ∷ bs) ∷ ls) ≡ (gs ++ v ∷ cs) ∷ ms = e in
    let same : d ≡ gs ++ v ∷ cs = cc in
    let all : d ≡ (gs ++ v ∷ []) ++ cs = same ∙ sym (append_assoc gs (v ∷ []) cs) in
    absurd (v_missed (first_part (gs ++ v ∷ []) cs switches (subst (λ xs. IsSubsequence xs switches) all first.0)))
chains_one switches (c ∷ es) (d ∷ ds) fs bs gs cs ls ms w v e first second fs_met w_missed gs_met v_missed =
    let g : c ∷ (es ++ (fs ++ w ∷ bs) ∷ ls) ≡ d ∷ (ds ++ (gs ++ v ∷ cs) ∷ ms) = e in
    let rest : es ++ (fs ++ w ∷ bs) ∷ ls ≡ ds ++ (gs ++ v ∷ cs) ∷ ms = cc in
    chains_one switches es ds fs bs gs cs ls ms w v rest first.1 second.1 fs_met w_missed gs_met v_missed

misses_one : (chains : List (List SwitchId)) (switches : List SwitchId) (w v : SwitchId) → MissesAt chains switches w → MissesAt chains switches v → w ≡ v
misses_one chains switches w v one two =
    chains_one switches one.earlier two.earlier one.front one.back two.front two.back one.later two.later w v (sym one.chains_are ∙ two.chains_are)
    one.earlier_met two.earlier_met one.front_met one.missed two.front_met two.missed

module _ (net : Network) (tables : List (List Rule)) (duties : PacketDuties) (entry : Place) (dst : ℕ) where
  -- a packet that was dropped didn't leave
  not_both : (trace other : Trace) (s : SwitchId) → EndsSo net tables dst entry trace → EndsSo net tables dst entry other → trace.ended ≡ end.Dropped s → IsLeft other.ended → ⊥
  not_both trace other s one two dropped left =
      let same = path_one net tables entry dst other trace two.path one.path in
      let ended : other.ended ≡ end.Dropped s = ap (λ (t : Trace). t.ended) same ∙ dropped in
      subst IsLeft ended left

  -- there is one way in which the path breaks the duties
  pub break_one : (a b : How) → BreaksSo net tables duties entry dst a → BreaksSo net tables duties entry dst b → a ≡ b
  break_one (Loop s) (Loop t) (xs, one) (ys, two) = ap Loop (loop_one net tables dst entry xs ys s t one two)
  break_one (Loop s) (Dropped t) (xs, one) (trace, ends, dropped, arrive) = absurd (no_loop net tables dst entry trace xs s ends one)
  break_one (Loop s) (Missed v) (xs, one) (trace, ends, left, misses) = absurd (no_loop net tables dst entry trace xs s ends one)
  break_one (Dropped s) (Loop t) (trace, ends, dropped, arrive) (ys, two) = absurd (no_loop net tables dst entry trace ys t ends two)
  break_one (Missed w) (Loop t) (trace, ends, left, misses) (ys, two) = absurd (no_loop net tables dst entry trace ys t ends two)
  break_one (Dropped s) (Dropped t) (trace, ends, dropped, arrive) (other, ends2, dropped2, arrive2) =
      let same = path_one net tables entry dst trace other ends.path ends2.path in
      let e : end.Dropped s ≡ end.Dropped t = sym dropped ∙ ap (λ (x : Trace). x.ended) same ∙ dropped2 in
      ap Dropped (let f : s ≡ t = cc in f)
  break_one (Dropped s) (Missed v) (trace, ends, dropped, arrive) (other, ends2, left, misses) = absurd (not_both trace other s ends ends2 dropped left)
  break_one (Missed w) (Dropped t) (other, ends2, left, misses) (trace, ends, dropped, arrive) = absurd (not_both trace other t ends ends2 dropped left)
  break_one (Missed w) (Missed v) (trace, ends, left, misses) (other, ends2, left2, misses2) =
      let same = path_one net tables entry dst other trace ends2.path ends.path in
      let moved : MissesAt duties.chains (switches_of trace.stops) v = subst (λ (t : Trace). MissesAt duties.chains (switches_of t.stops) v) same misses2 in
      ap Missed (misses_one duties.chains (switches_of trace.stops) w v misses moved)
