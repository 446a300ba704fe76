-- Frames at the front of a place, and what a frame asks. Assumes nothing.
use Rattle.std.proofs.Common.{◌≡◌, ℕ, ◌+◌, ◌/◌, ◌%◌, ◌<◌, false, eqb, List, ◌++◌, length, get_or, take, drop, Option, sym, refl, ap, ◌∙◌, append_assoc, arith, length-append}
use Rattle.std.proofs.lemmas.List.{take-append-drop}
use Rattle.std.specs.List.{AllByRecursion}
use Rattle.refusals.specs.Numbers.{number}
use Rattle.mac.specs.Face.{Face}
use Rattle.frame.specs.declared.Header.{Header}
use Rattle.frame.specs.Layout.{header_of, bytes_of_header, Fitting}
use Rattle.frame.specs.Reading.{questions}
use Rattle.frame.proofs.Bytes.{round_trip, header_length}
use Rattle.node.specs.declared.desk.Fields.{Fields}
use Rattle.node.specs.Asking.{frame_q}

-- none of a frame's questions is whether its tag is right
pub frame_plain : (f : Face) (hand : Option Fields) (frame : List ℕ) (t own : ℕ) (key : Option (List ℕ)) (last : ℕ) → AllByRecursion (λ q. eqb (number q.refusal) 20 ≡ false) (frame_q f hand frame t own key last)
unfolding questions
frame_plain f hand frame t own key last = (refl, (refl, (refl, (refl, (refl, (refl, (refl, (refl, (refl, tt)))))))))

low : (x : ℕ) → x % 8 < 8
low x = omega arith

pub slot_low : (frame : List ℕ) → (header_of frame).slot < 8
unfolding header_of
slot_low frame = low (get_or frame 0 0 / 4)

-- the header of a frame that stands first in a place
pub header_first : (h : Header) (body tag place : List ℕ) → Fitting h → take (length ((bytes_of_header h ++ body) ++ tag)) place ≡ (bytes_of_header h ++ body) ++ tag → header_of place ≡ h
header_first h body tag place fits there =
    let n : ℕ = length ((bytes_of_header h ++ body) ++ tag) in
    let whole : place ≡ bytes_of_header h ++ (body ++ (tag ++ drop n place)) =
    sym (take-append-drop n place) ∙ ap (λ x. x ++ drop n place) there ∙ append_assoc (bytes_of_header h ++ body) tag (drop n place) ∙ append_assoc (bytes_of_header h) body (tag ++ drop n place) in
    ap header_of whole ∙ round_trip h (body ++ (tag ++ drop n place)) fits

pub front_long : (h : Header) (body tag : List ℕ) (t : ℕ) → length tag ≡ t → length ((bytes_of_header h ++ body) ++ tag) ≡ 8 + length body + t
front_long h body tag t long = length-append (bytes_of_header h ++ body) tag ∙ omega (arith, length-append (bytes_of_header h) body, header_length h, long)
