-- What an algorithm over a hash makes of a request. Assumes nothing.
use Rattle.std.specs.Prelude.{◌≡◌, ℕ, List, length, Result}
use Rattle.refusals.specs.declared.Refusal.{Refusal}
use Rattle.refusals.specs.Questions.{Question}
use Rattle.mac.specs.Face.{Face}
use Rattle.tags.specs.declared.Request.{Request}
use Rattle.tags.specs.Asked.{questions, asked, written, Long}

abbrev pub questions_of : Face → ℕ → Request → ℕ → List Question
questions_of f added q room = questions f added q.t (length q.key.now) (length q.message.now) room

-- the answer, the place to write afterwards, and how long the tag in it is
pub record OneShot (f : Face) (added : ℕ) (q : Request) (out0 out1 : List ℕ) (r : Result ℕ Refusal) : Type 0 where
  pub answer : r ≡ asked f added q.t (length q.key.now) (length q.message.now) (length out0)
  pub tag : out1 ≡ written r (f.tag q.key.now q.message.now q.t) q.t out0
  pub long : Long r (f.tag q.key.now q.message.now q.t) q.t (length out0)
