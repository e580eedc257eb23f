-- The ring of the sample, to be packed.
use Rattle.std.specs.Prelude.{ℕ, []}
use Rattle.certificates.specs.Updates.{Task}
use Rattle.ring_sample.specs.Ring.{ring_update}

-- the update of the ring, without rounds
abbrev pub ring_task : ℕ → Task
ring_task n = record { update = ring_update n; rounds = [] }
