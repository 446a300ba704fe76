-- A line that goes on, one that ends, and chunk after chunk. Assumes nothing.
use Rattle.std.proofs.Common.{◌≡◌, ℕ, ◌+◌, ◌<◌, ◌≤◌, List, [], ◌∷◌, ◌++◌, length, get_or, take, sym, refl, ap, ◌∙◌, subst, append_assoc, append-nil, arith, Bor}
use Rattle.std.specs.List.{flat_map}
use Rattle.std.proofs.lemmas.List.{flat_map_more, take_all, take_more}
use Rattle.std.proofs.lemmas.List.Concat.{flat_map-append}
use Rattle.requests.specs.declared.lines.Lines.{Lines}
use Rattle.text.specs.Pieces.{pieces}
use Rattle.requests.specs.Reply.{reply}
use Rattle.requests.specs.Input.{fronts, final, ended, unended, replies, last_reply}
use Rattle.requests.specs.Stands.{Stands, Fed, Replied, Same}
use Rattle.requests.proofs.Breaks.{pieces_some, one_broken, one_grown, pieces_append, fronts_append, final_append}
use Rattle.requests.proofs.Held.{front_some, reply_front}

-- an input that goes on
pub replies_append : (xs ys : List ℕ) → replies (xs ++ ys) ≡ replies xs ++ replies (unended xs ++ ys)
replies_append xs ys =
    ap (λ ps. flat_map reply (fronts ps)) (pieces_append 10 xs ys)
    ∙ ap (flat_map reply) (fronts_append (ended xs) (pieces 10 (unended xs ++ ys)) (pieces_some 10 (unended xs ++ ys)))
    ∙ flat_map-append reply (ended xs) (ended (unended xs ++ ys))

pub unended_append : (xs ys : List ℕ) → unended (xs ++ ys) ≡ unended (unended xs ++ ys)
unended_append xs ys =
    ap final (pieces_append 10 xs ys) ∙ final_append (ended xs) (pieces 10 (unended xs ++ ys)) (pieces_some 10 (unended xs ++ ys))

pub fed_none : (l : Lines) (out : List ℕ) → Fed l out [] l out
fed_none l out pending s =
    let one : pieces 10 (pending ++ []) ≡ pending ∷ [] = ap (pieces 10) (append-nil pending) ∙ s.unbroken in
    (sym (append-nil out) ∙ ap (λ ps. out ++ flat_map reply (fronts ps)) (sym one), subst (Stands l) (ap final (sym one)) s)

pub fed_join : (l l₁ l₂ : Lines) (out out₁ out₂ xs ys : List ℕ) → Fed l out xs l₁ out₁ → Fed l₁ out₁ ys l₂ out₂ → Fed l out (xs ++ ys) l₂ out₂
fed_join l l₁ l₂ out out₁ out₂ xs ys first second pending s =
    let before = first pending s in
    let after = second (unended (pending ++ xs)) before.1 in
    let whole : (pending ++ xs) ++ ys ≡ pending ++ (xs ++ ys) = append_assoc pending xs ys in (
      after.0
          ∙ ap (λ o. o ++ replies (unended (pending ++ xs) ++ ys)) before.0
          ∙ append_assoc out (replies (pending ++ xs)) (replies (unended (pending ++ xs) ++ ys))
          ∙ ap (λ o. out ++ o) (sym (replies_append (pending ++ xs) ys) ∙ ap replies whole),
      subst (Stands l₂) (sym (unended_append (pending ++ xs) ys) ∙ ap unended whole) after.1,
    )

-- one byte more is pending
pub fed_kept : (l l' : Lines) (out : List ℕ) (b : ℕ) → (b ≡ 10 → ⊥) → ((pending : List ℕ) → Stands l pending → Stands l' (pending ++ b ∷ [])) → Fed l out (b ∷ []) l' out
fed_kept l l' out b ne kept pending s =
    let one = one_grown 10 pending b ne s.unbroken in
    (sym (append-nil out) ∙ ap (λ ps. out ++ flat_map reply (fronts ps)) (sym one), subst (Stands l') (ap final (sym one)) (kept pending s))

-- a newline
pub fed_ended : (l l' : Lines) (out out' : List ℕ) (b : ℕ) → b ≡ 10 → Replied reply l out l' out' → Fed l out (b ∷ []) l' out'
fed_ended l l' out out' b e replied pending s =
    let two : pieces 10 (pending ++ b ∷ []) ≡ pending ∷ [] ∷ [] = ap (λ c. pieces 10 (pending ++ c ∷ [])) e ∙ one_broken 10 pending s.unbroken in
    let told = replied pending s in (
      told.0 ∙ ap (λ o. out ++ o) (sym (append-nil (reply pending))) ∙ ap (λ ps. out ++ flat_map reply (fronts ps)) (sym two),
      subst (Stands l') (ap final (sym two)) told.1,
    )

-- the reply to the slice that is held is the reply to the line
pub reply_held : (l : Lines) (pending : List ℕ) → Stands l pending → reply (take l.len l.held) ≡ reply pending
reply_held l pending s = ap reply s.held ∙ reply_front pending

pub last_some : (pending : List ℕ) → 0 < length pending → reply pending ≡ last_reply pending
last_some [] h = absurd (omega arith)
last_some (b ∷ bs) h = refl

-- byte after byte of a chunk
pub fed_more : (l l₁ l₂ : Lines) (out out₁ out₂ chunk : List ℕ) (i : ℕ) → i < length chunk → Fed l out (take i chunk) l₁ out₁ → Fed l₁ out₁ (get_or chunk i 0 ∷ []) l₂ out₂ → Fed l out (take (i + 1) chunk) l₂ out₂
fed_more l l₁ l₂ out out₁ out₂ chunk i lt first second =
    subst (λ xs. Fed l out xs l₂ out₂) (sym (take_more chunk i 0 lt)) (fed_join l l₁ l₂ out out₁ out₂ (take i chunk) (get_or chunk i 0 ∷ []) first second)

pub fed_all : (l l' : Lines) (out out' chunk : List ℕ) (i : ℕ) → length chunk ≤ i → Fed l out (take i chunk) l' out' → Fed l out chunk l' out'
fed_all l l' out out' chunk i le fed = subst (λ xs. Fed l out xs l' out') (take_all i chunk le) fed

pub fed_same : (l l₁ l₂ : Lines) (out out₁ out₂ chunk : List ℕ) → Fed l out chunk l₁ out₁ → Same l₁ out₁ l₂ out₂ → Fed l out chunk l₂ out₂
fed_same l l₁ l₂ out out₁ out₂ chunk fed same pending s =
    let told = fed pending s in
    (same.0 ∙ told.0, subst (λ k. Stands k (unended (pending ++ chunk))) (sym same.1) told.1)

-- the end of an input
pub finish_some : (l l' : Lines) (out out' : List ℕ) → length l.held ≡ 1025 → 0 < l.len → Replied reply l out l' out' → Replied last_reply l out l' out'
finish_some l l' out out' long some replied pending s =
    let told = replied pending s in
    (told.0 ∙ ap (λ o. out ++ o) (last_some pending (front_some 1025 l.len l.held pending long s.held some (omega arith))), told.1)

-- chunk after chunk of an input
pub fed_chunk : (l l₁ l₂ : Lines) (out out₁ out₂ : List ℕ) (chunks : List (Bor (List ℕ))) (i : ℕ) (d : Bor (List ℕ)) → i < length chunks → Fed l out (flat_map (λ c. c.now) (take i chunks)) l₁ out₁ → Fed l₁ out₁ (get_or chunks i d).now l₂ out₂ → Fed l out (flat_map (λ c. c.now) (take (i + 1) chunks)) l₂ out₂
fed_chunk l l₁ l₂ out out₁ out₂ chunks i d lt first second =
    subst (λ xs. Fed l out xs l₂ out₂)
    (flat_map_more (λ c. c.now) [] (take i chunks) (get_or chunks i d) ∙ ap (flat_map (λ c. c.now)) (sym (take_more chunks i d lt)))
    (fed_join l l₁ l₂ out out₁ out₂ (flat_map (λ c. c.now) (take i chunks)) (get_or chunks i d).now first second)
