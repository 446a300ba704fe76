-- SHA-256 as a hash: eight words, none added, high byte first. Assumes nothing.
use Rattle.std.specs.Prelude.{replicate}
use Rattle.hash.specs.Meaning.{Meaning}
use Rattle.hash.specs.declared.ByteOrder.TheVariants.{HighFirst}
use Rattle.sha256.specs.Round.{round256, first256}

abbrev pub meaning256 : Meaning
meaning256 = record { words = 8; added = 0; order = HighFirst; first = first256; strings = λ i. replicate 16 0; phi = round256 }
