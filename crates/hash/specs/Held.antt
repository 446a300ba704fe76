-- What a block holds after a piece was copied into it from a place on, and what is left of the piece. Assumes nothing.
use Rattle.std.specs.Prelude.{ℕ, ◌+◌, ◌-◌, ◌*◌, ◌/◌, min, cond, List, ◌++◌, length, take, drop, ◌==◌}

-- how many bytes are copied
abbrev pub copied : List ℕ → ℕ → List ℕ → ℕ
copied held at piece = min (length held - at) (length piece)

abbrev pub filled : List ℕ → ℕ → List ℕ → List ℕ
filled held at piece = take at held ++ (take (copied held at piece) piece ++ drop (copied held at piece) (drop at held))

abbrev pub tail_after : List ℕ → ℕ → List ℕ → List ℕ
tail_after held at piece = drop (copied held at piece) piece

-- the bytes held, joined by a piece
abbrev pub joined : List ℕ → ℕ → List ℕ → List ℕ
joined held at piece = take at held ++ piece

-- how many whole blocks they fill
abbrev pub whole_blocks : ℕ → List ℕ → ℕ
whole_blocks at piece = (at + length piece) / 64

-- the bytes of a piece that fill no block
abbrev pub rest_of : List ℕ → List ℕ
rest_of piece = drop (64 * (length piece / 64)) piece

-- a block into which a rest was laid: over what it held
abbrev pub laid_over : List ℕ → List ℕ → List ℕ
laid_over rest held = rest ++ drop (length rest) held

-- the block once the whole blocks are gone. A piece that finds no bytes held is worked on where it lies; any other fills the block first
abbrev pub kept_of : List ℕ → ℕ → List ℕ → List ℕ
kept_of held at piece = laid_over (drop (64 * whole_blocks at piece) (joined held at piece)) (cond (at == 0) held (filled held at piece))
