-- A tag that was made, read out of its place. Assumes nothing.
use Rattle.std.proofs.Common.{◌≡◌, ℕ, List, [], ◌++◌, length, take, Ok, Err, ap, ◌∙◌}
use Rattle.std.proofs.lemmas.List.{take_at}
use Rattle.refusals.specs.declared.Refusal.{Refusal}
use Rattle.tags.specs.Tag.{answered, tag_of}
use Rattle.requests.specs.Form.{Asked}
use Rattle.requests.specs.Reply.{said_of, answer_to}

module _ (q : Asked) where
  abbrev made : List ℕ
  made = tag_of q.algorithm q.hash q.t q.key q.message

  -- s, and then what was written of the place after the call
  pub answer_ok : (s w place rest : List ℕ) (n : ℕ) → Ok n ≡ answered q.algorithm q.hash q.t (length q.key) (length q.message) 32 → length made ≡ q.t → place ≡ made ++ rest → w ≡ s ++ said_of (Ok n) (take q.t place) → w ≡ s ++ answer_to q
  unfolding answer_to
  answer_ok s w place rest n e l is so =
      so
      ∙ ap (λ l. s ++ said_of (Ok n) l) (ap (take q.t) is ∙ take_at made rest q.t l)
      ∙ ap (λ r. s ++ said_of r made) e

  pub answer_err : (s w : List ℕ) (refusal : Refusal) → Err refusal ≡ answered q.algorithm q.hash q.t (length q.key) (length q.message) 32 → w ≡ s ++ said_of (Err refusal) [] → w ≡ s ++ answer_to q
  unfolding answer_to
  answer_err s w refusal e so = so ∙ ap (λ r. s ++ said_of r made) e
