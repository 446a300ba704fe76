-- A frame: a header of bit fields, most significant first (version 3 bits, slot 3, kind 2, body length 8, address 16, number 32), the body,
-- and the tag of both. Assumes nothing.
use Rattle.std.specs.Prelude.{◌≡◌, ℕ, ◌+◌, ◌*◌, ◌/◌, ◌%◌, ◌<◌, List, [], ◌∷◌, ◌++◌, take, drop, slice_index}
use Rattle.frame.specs.declared.Header.{Header}

-- the header at the front of the bytes
unfoldable pub header_of : List ℕ → Header
header_of bs = record {
  version = slice_index bs 0 / 32;
  slot = slice_index bs 0 / 4 % 8;
  kind = slice_index bs 0 % 4;
  size = slice_index bs 1;
  address = slice_index bs 2 * 256 + slice_index bs 3;
  number = slice_index bs 4 * 16777216 + slice_index bs 5 * 65536 + slice_index bs 6 * 256 + slice_index bs 7;
}

-- a header's eight bytes; a field wider than its bits loses the high ones
unfoldable pub bytes_of_header : Header → List ℕ
bytes_of_header h =
    (h.version % 8 * 32 + h.slot % 8 * 4 + h.kind % 4)
    ∷ (h.size % 256)
    ∷ (h.address / 256 % 256)
    ∷ (h.address % 256)
    ∷ (h.number / 16777216 % 256)
    ∷ (h.number / 65536 % 256)
    ∷ (h.number / 256 % 256)
    ∷ (h.number % 256)
    ∷ []

unfoldable pub body_of : List ℕ → List ℕ
body_of frame = take (header_of frame).size (drop 8 frame)

-- header and body, which the tag is of
unfoldable pub signed_part : List ℕ → List ℕ
signed_part frame = take (8 + (header_of frame).size) frame

-- what follows header and body
unfoldable pub tag_in : List ℕ → List ℕ
tag_in frame = drop (8 + (header_of frame).size) frame

-- each field fits its bits
pub record Fitting (h : Header) : Type 0 where
  pub version : h.version < 8
  pub slot : h.slot < 8
  pub kind : h.kind < 4
  pub size : h.size < 256
  pub address : h.address < 65536
  pub number : h.number < 4294967296

-- a header that is written and read is the same header, whatever follows it
abbrev pub RoundTrip : Type 0
RoundTrip = (h : Header) (rest : List ℕ) → Fitting h → header_of (bytes_of_header h ++ rest) ≡ h

-- a header that is read from bytes fits its bits
abbrev pub HeaderFits : Type 0
HeaderFits = (bytes : List ℕ) → ((k : ℕ) → slice_index bytes k < 256) → Fitting (header_of bytes)
