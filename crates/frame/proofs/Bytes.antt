-- A header's fields from its bytes and back. Assumes nothing.
use Rattle.std.proofs.Common.{◌≡◌, ℕ, ◌+◌, ◌*◌, ◌/◌, ◌%◌, ◌<◌, List, length, refl, arith}
use Rattle.std.proofs.lemmas.Nat.{shr-shr, div-add-mod', div_below}
use Rattle.frame.specs.declared.Header.{Header}
use Rattle.frame.specs.Layout.{header_of, bytes_of_header, RoundTrip, HeaderFits}

-- four bytes make their number again
pub four : (n : ℕ) → n < 4294967296 → n / 16777216 % 256 * 16777216 + n / 65536 % 256 * 65536 + n / 256 % 256 * 256 + n % 256 ≡ n
four n h =
    let one = div-add-mod' n 256 in
    let two = div-add-mod' (n / 256) 256 in
    let three = div-add-mod' (n / 65536) 256 in
    let b = shr-shr n 8 8 in
    let c = shr-shr n 16 8 in
    let two' : n / 65536 * 256 + n / 256 % 256 ≡ n / 256 = rw b at two in
    let three' : n / 16777216 * 256 + n / 65536 % 256 ≡ n / 65536 = rw c at three in
    let small = div_below n 16777216 256 (omega arith) h in
    let top : n / 16777216 % 256 ≡ n / 16777216 = omega (arith, small) in
    omega (arith, one, two', three', top)

pub round_trip : RoundTrip
unfolding header_of bytes_of_header
round_trip h rest f =
    let a : (h.version % 8 * 32 + h.slot % 8 * 4 + h.kind % 4) / 32 ≡ h.version = omega arith in
    let b : (h.version % 8 * 32 + h.slot % 8 * 4 + h.kind % 4) / 4 % 8 ≡ h.slot = omega arith in
    let c : (h.version % 8 * 32 + h.slot % 8 * 4 + h.kind % 4) % 4 ≡ h.kind = omega arith in
    let s : h.size % 256 ≡ h.size = omega arith in
    let d : h.address / 256 % 256 * 256 + h.address % 256 ≡ h.address = omega arith in
    let e : h.number / 16777216 % 256 * 16777216 + h.number / 65536 % 256 * 65536 + h.number / 256 % 256 * 256 + h.number % 256 ≡ h.number = four h.number f.number in
    λ i. record { version = a i; slot = b i; kind = c i; size = s i; address = d i; number = e i }

pub header_length : (h : Header) → length (bytes_of_header h) ≡ 8
unfolding bytes_of_header
header_length h = refl

-- slot and kind are taken from their bits, so they fit in any bytes
pub slot_fits : (bs : List ℕ) → (header_of bs).slot < 8
unfolding header_of
slot_fits bs = omega arith

pub header_fits : HeaderFits
unfolding header_of
header_fits bs small =
    let b0 = small 0 in
    let b1 = small 1 in
    let b2 = small 2 in
    let b3 = small 3 in
    let b4 = small 4 in
    let b5 = small 5 in
    let b6 = small 6 in
    let b7 = small 7 in
    record { version = omega arith; slot = omega arith; kind = omega arith; size = b1; address = omega arith; number = omega arith }
