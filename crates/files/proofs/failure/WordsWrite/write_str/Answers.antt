-- `files::failure::Words::write_str` keeps as much of the text as fits. Assumes nothing.
use Rattle.std.proofs.Common.{sym}
use Rattle.files.proofs.failure.WordsWrite.write_str.Goals as goal
use Rattle.files.proofs.Kept.{kept}

pub returns : goal.returns
returns c = record { ok = λ _. kept c.self.told c.self.invariant c.min-fits.ensures c.as_bytes-text.ensures.value (sym c.self.view_is) c.put_text-self-inside.ensures }
