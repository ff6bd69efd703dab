-- `quote::write_sheet` meets its contract.
use Rattle.quote.proofs.Writing.{sheet-written}
use Rattle.quote.proofs.write_sheet.Goals as goal

pub returns : goal.returns
returns c = rw c.copy_from_slice.ensures.after (sheet-written _ _ _ _ _ c.sheet_text-text.ensures c.as_bytes-bytes.ensures.said)
