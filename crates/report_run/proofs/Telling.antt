-- The text of a report tells the entries of its run.
use Rattle.std.proofs.Common.{◌≡◌, ℕ, List, ◌++◌, Option, codes, sym, ◌∙◌}
use Rattle.std.specs.List.{flat_map}
use Rattle.std.proofs.lemmas.List.{append_cancel_left, append_cancel_right}
use Rattle.micro_isa.specs.declared.program.Channel.{Channel}
use Rattle.micro_isa.specs.declared.image.Image.{Image}
use Rattle.micro_kit.specs.Text.{number_line}
use Rattle.world.specs.declared.event.Entry.{Entry}
use Rattle.journal_text.specs.Entries.{entry_line}
use Rattle.journal_text.proofs.Telling.{told_once}
use Rattle.report_run.specs.declared.report.Outcome.{Outcome}
use Rattle.report_run.specs.Report.{need_line, image_lines, view_lines, file_line, end_line, report_text, TellsEntries}

-- of two texts that differ in the third part alone
third : (a b x y d e f g : List ℕ) → ((((((a ++ b) ++ x) ++ d) ++ e) ++ f) ++ g) ≡ ((((((a ++ b) ++ y) ++ d) ++ e) ++ f) ++ g) → x ≡ y
third a b x y d e f g h =
    append_cancel_left (a ++ b) x y (append_cancel_right ((a ++ b) ++ x) ((a ++ b) ++ y) d (append_cancel_right _ _ e (append_cancel_right _ _ f (append_cancel_right _ _ g h))))

same_lines : (need : Option ℕ) (image : Option Image) (channels : List Channel) (es fs : List Entry) (last : Outcome) → report_text need image channels es last ≡ report_text need image channels fs last → flat_map entry_line es ≡ flat_map entry_line fs
unfolding report_text
same_lines need image channels es fs last h =
    third (need_line need) (image_lines image) (flat_map entry_line es) (flat_map entry_line fs) (view_lines channels last.view) (file_line last.file) (number_line (codes "steps ") last.view.steps) (end_line last.ending) h

pub tells : (text : List ℕ) (need : Option ℕ) (image : Option Image) (channels : List Channel) (entries : List Entry) (last : Outcome) → text ≡ report_text need image channels entries last → TellsEntries text need image channels entries last
tells text need image channels entries last is others fitting fits same =
    told_once others entries fits fitting (same_lines need image channels others entries last (sym same ∙ is))
