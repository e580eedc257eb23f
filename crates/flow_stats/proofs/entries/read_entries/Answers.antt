use Rattle.std.proofs.Common.{◌≡◌, ℕ, ◌+◌, sym, ap, ◌∙◌}
use Rattle.openflow10.specs.Layout.{number_at}
use Rattle.flow_stats.specs.Entries.{entries_in}
use Rattle.flow_stats.specs.declared.entries.Entry.{Entry}
use Rattle.flow_stats.proofs.EntryLaws.{rest_at, behind_nothing, entry_found, goes_on}
use Rattle.flow_stats.proofs.entries.read_entries.Goals as goal

pub entries-init : goal.entries-init
unfolding entries_in
entries-init c = record {
  within = c.requires;
  read = rw c.new-entries.ensures.items (behind_nothing c.args.bytes.now (rest_at c.args.bytes.now 12));
}

pub entries-preserved : goal.entries-preserved
entries-preserved c =
    let bytes = c.args.bytes.now in
    let (begins, is) = entry_found c.entries.at bytes c.in-Some.entry c.in-Some.ensures.value in
    let len : c.in-Some.entry.fields.len ≡ number_at c.entries.at 2 bytes = ap (λ (e : Entry). e.fields.len) (sym is) in
    let within = c.in-Some.ensures.within.1 in
    record {
      within = rw c.from-at.ensures within;
      read = goes_on bytes c.entries.at _ c.entries.entries.items _ c.in-Some.entry (entries_in bytes) c.entries-test.true begins (sym is)
          (ap (λ (k : ℕ). c.entries.at + k) (c.from-at.ensures ∙ len)) c.in_ok-push.ensures.items c.entries.invariant.read;
    }
