-- What a run of `paths` says of the files of a source that tells.
use Rattle.std.proofs.Common.{◌≡◌, ◌↔◌, ℕ, List, refl, subst, inl, inr}
use Rattle.std.specs.declared.option.Option.{Option}
use Rattle.std.specs.Io.KnownBytes.{Appends}
use Rattle.file_access.specs.Outside.{Files}
use Rattle.config_check.specs.declared.Breaks as breaking
use Rattle.config_check.specs.Broken.{IsFirstBreak}
use Rattle.config_check.proofs.AddressLaws.{good_everywhere}
use Rattle.command_base.specs.declared.status.Status.{Status}
use Rattle.command_base.specs.declared.status.Status.TheVariants as status
use Rattle.command_base.specs.JudgedFiles.{RefusalPromise}
use Rattle.command_base.specs.Runs.{IsComplete, Answered}
use Rattle.command_base.proofs.JudgementLaws.{judges, judged_done, judged_then, refusals, says_of}
use Rattle.command_base.proofs.RunLaws.{settled_done}
use Rattle.config_command.specs.Names.{ConfigNames}
use Rattle.config_command.specs.Configs.{ConfigMeaning, config_dialogue, config_count, FilesMean, FilesHold, Holds, KeepsPacketsGood}
use Rattle.config_command.specs.Promise.{ConfigPromise}
use Rattle.config_command.specs.Verdicts.{classes_under}
use Rattle.config_command.proofs.ConfigLaws.{config_meant}
use Rattle.config_command.proofs.StillLaws.{keeps_good}
use Rattle.config_command.proofs.VerdictLaws.{prefixed}
use Rattle.paths_command.specs.Listed.{IsPathsText, IsPathsAnswer}
use Rattle.paths_command.specs.Promise.{WritesPaths, ListsFirstBreak, EndAlike, PathsPromise}
use Rattle.paths_command.proofs.AddressLaws.{speak_for_all}
use Rattle.paths_command.proofs.ListingLaws.{first_row}

writes : (m : ConfigMeaning) (text : List ℕ) (old new : Option (List ℕ)) → IsPathsText m text → Appends old new text → WritesPaths m old new
writes m text old new is written = record { rows = is.rows; are = is.are; speak = speak_for_all m is.rows is.are; written = subst (λ t. Appends old new t) is.text_is written }

-- of a run of `paths` over a source that tells
module _ (files : Files) (names : ConfigNames) (old new : Option (List ℕ)) (result : Status) (answered : IsComplete result → Answered IsPathsAnswer files (config_dialogue names) old new result) where
  done : IsComplete result → (result ≡ status.Done) ↔ FilesHold files names
  done settled = judged_done (judges (config_meant files names) (answered settled))

  refuses : RefusalPromise (FilesMean files names) config_count Holds IsPathsText old new result
  refuses = refusals (λ settled. judges (config_meant files names) (answered settled))

  lists_done : result ≡ status.Done → (m : ConfigMeaning) → FilesMean files names m → WritesPaths m old new
  lists_done is m mean =
      let a = answered (settled_done _ is) in
      writes m a.answer.text old new (judged_then (judges (config_meant files names) a) is m mean) a.written

  lists_refused : result ≡ status.Refused → (m : ConfigMeaning) → FilesMean files names m → WritesPaths m old new
  lists_refused is m mean =
      let w = refuses.first m mean is in
      writes m w.line old new w.is_why w.written

  first : result ≡ status.Refused → (m : ConfigMeaning) (b : breaking.Breaks) → FilesMean files names m
      → IsFirstBreak m.net m.tables m.demands (classes_under m.net m.tables m.demands) b → ListsFirstBreak m b old new
  first is m b mean break =
      let lists = lists_refused is m mean in
      record { lists = lists; first = first_row m lists.rows lists.are b break }

  alike : IsComplete result → (before after : Option (List ℕ)) (other : Status) → IsComplete other → ConfigPromise files names before after other → EndAlike result other
  alike settled before after other ended p = record {
    done = (λ is. (p.done ended).1 ((done settled).0 is), λ is. (done settled).1 ((p.done ended).0 is));
    refused = (λ is. (p.refusals.refused ended).1 ((refuses.refused settled).0 is), λ is. (refuses.refused settled).1 ((p.refusals.refused ended).0 is));
  }

  -- good paths of the classes are good paths of all packets
  keeps : result ≡ status.Done → (m : ConfigMeaning) → FilesMean files names m → KeepsPacketsGood m.net m.tables m.demands
  keeps is m mean =
      let good = (says_of (judges (config_meant files names) (answered (settled_done _ is))) m mean (λ e. cc) (λ e. cc)).holds in
      let classes = classes_under m.net m.tables m.demands in
      keeps_good m.net m.tables m.demands (good_everywhere m.net m.tables m.demands classes.prefixes (prefixed m.net m.tables m.demands classes refl) good)

  pub promised : PathsPromise files names old new result
  promised = record {
    done = done;
    keeps = λ m mean is. keeps is m mean;
    refusals = refuses;
    lists = λ m mean ended. elim ended [ inl is ↦ lists_done is m mean | inr is ↦ lists_refused is m mean ];
    first = λ m b mean is break. first is m b mean break;
    as_config = alike;
  }
