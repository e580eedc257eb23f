use Rattle.std.proofs.Common.{ap, ◌∙◌, sym, string_bytes}
use Rattle.std.specs.Str.{bytes_eq}
use Rattle.file_access.specs.declared.in_memory.StoredFile.{StoredFile}
use Rattle.file_access.proofs.Shelves.{found, found-name, found-within, passed}
use Rattle.file_access.proofs.in_memory.find.Goals as goal

pub returns-then-eq-clause-file : goal.returns-then-eq-clause-file
returns-then-eq-clause-file c = found c.args.files.now c.args.name.now c.looks.i c.index-files-i.result c.looks-test.true c.index-files-i.is (ap (λ (f : StoredFile). bytes_eq (string_bytes f.name) c.args.name.now) c.index-files-i.is ∙ ap (λ n. bytes_eq n c.args.name.now) (sym c.as_str.ensures.value) ∙ sym c.eq.ensures ∙ c.if-eq.true) c.looks.invariant

pub returns-then-eq-clause-name : goal.returns-then-eq-clause-name
returns-then-eq-clause-name c = found-name c.args.files.now c.args.name.now c.looks.i c.index-files-i.result c.looks-test.true c.index-files-i.is (ap (λ (f : StoredFile). bytes_eq (string_bytes f.name) c.args.name.now) c.index-files-i.is ∙ ap (λ n. bytes_eq n c.args.name.now) (sym c.as_str.ensures.value) ∙ sym c.eq.ensures ∙ c.if-eq.true) c.looks.invariant

pub returns-then-eq-clause-within : goal.returns-then-eq-clause-within
returns-then-eq-clause-within c = found-within c.args.files.now c.looks.i c.index-files-i.result c.looks-test.true c.index-files-i.is

pub looks-preserved : goal.looks-preserved
looks-preserved c = passed c.args.files.now c.args.name.now c.looks.i c.index-files-i.result c.looks-test.true c.index-files-i.is (ap (λ (f : StoredFile). bytes_eq (string_bytes f.name) c.args.name.now) c.index-files-i.is ∙ ap (λ n. bytes_eq n c.args.name.now) (sym c.as_str.ensures.value) ∙ sym c.eq.ensures ∙ c.if-eq.false) c.looks.invariant
