-- Portion after portion, the text goes the way of its first piece.
use Rattle.uca_elements.proofs.CutReading.{parts_pieces, read_pieces}
use Rattle.uca_elements.proofs.laws.texts_read_in_pieces.Goals as goal

pub returns : goal.returns
returns c = record { parts = λ keys s t cut. parts_pieces keys t cut s; reading = λ implicit rows s t cut. read_pieces implicit rows t cut s }
