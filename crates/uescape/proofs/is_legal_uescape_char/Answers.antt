-- `uescape::is_legal_uescape_char` meets its contract. One character is as many bytes as its first byte says, the later ones 80 hex or above.
-- Assumes nothing.
use Rattle.uescape.proofs.Characters.{legal_not, legal_by_lem}
use Rattle.uescape.proofs.is_legal_uescape_char.Goals as goal

pub returns-then-utf8_width-bytes : goal.returns-then-utf8_width-bytes
returns-then-utf8_width-bytes c = search legal_not

pub returns : goal.returns
returns c = search legal_by_lem
