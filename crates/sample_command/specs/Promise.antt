-- What a run of `sample` promises. It reads no file, so over every source.
use Rattle.std.specs.Prelude.{◌≡◌, ◌⊎◌, ℕ, List, Option}
use Rattle.std.specs.Io.KnownBytes.{Appends}
use Rattle.file_access.specs.Outside.{AppendsFront}
use Rattle.command_base.specs.declared.status.Status.{Status}
use Rattle.command_base.specs.declared.status.Status.TheVariants as status
use Rattle.sample_command.specs.Summaries.{IsSummary}

-- the line of a summary was written
pub record WritesSummary (n : ℕ) (old new : Option (List ℕ)) : Type 0 where
  pub text : List ℕ
  pub summary : IsSummary n text
  pub written : Appends old new text

-- a front of the line of a summary was written
pub record WritesFront (n : ℕ) (old new : Option (List ℕ)) : Type 0 where
  pub text : List ℕ
  pub summary : IsSummary n text
  pub written : AppendsFront old new text

-- the number of switches, what was written before and after the run, and how it ended
pub record SamplePromise (n : ℕ) (old new : Option (List ℕ)) (result : Status) : Type 0 where
  -- It says Done, or memory was wanting, or writing failed, and nothing else.
  pub ends : (result ≡ status.Done) ⊎ ((result ≡ status.Memory) ⊎ (result ≡ status.WriteFault))
  -- At Done the line was written: of the ordered plan of a search on the ring of n switches, with 4 * (n - 1) rounds over 6 * n classes.
  -- The plan has as many rounds, and the update with it as many classes; it is certified, so the update is consistent.
  pub writes : result ≡ status.Done → WritesSummary n old new
  -- Where writing failed, a front of the line was.
  pub front : result ≡ status.WriteFault → WritesFront n old new
