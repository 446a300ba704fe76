-- From the agreement to the law of a whole list. Assumes nothing.
use Rattle.std.proofs.Common.{◌≡◌, ℕ, zero, suc, ◌+◌, ◌^◌, ◌<◌, ◌≤◌, Bool, true, false, leb, List, [], ◌∷◌, ◌++◌, reverse, length, get_or, take, replicate, None, Option, sym, refl, ap, ◌∙◌, subst, arith, length-append, leb-false, leb-true}
use Rattle.std.proofs.lemmas.List.{length-map, length-take-le, map_push, reverse-append, take_more, take_all, take-append-le, get_or_append_left, get_or_push}
use Rattle.hash.specs.Meter.{moved}
use Rattle.hash.proofs.Turns.{reads}
use Rattle.mac.specs.Face.{Face}
use Rattle.node.specs.declared.Node.{Node}
use Rattle.node.specs.declared.desk.Desk.{Desk}
use Rattle.node.specs.declared.replay.Call.{Call}
use Rattle.node.specs.declared.replay.Report.{Report}
use Rattle.node.specs.Model.{Opened, fed_of}
use Rattle.node.specs.Calls.{new}
use Rattle.node.specs.Replaying.{report_of}
use Rattle.node.specs.Stands.{Stands, in_hand}
use Rattle.node.specs.Replies.{Answer}
use Rattle.history.specs.declared.Step.{Step}
use Rattle.history.specs.History.{Event, event, events, history}
use Rattle.history.specs.Law.{Law, Ran, Logged, report_at, cost}
use Rattle.history.specs.Logs.{answers_in, reports_in}
use Rattle.history.specs.Keeps.{Keeps, GoesOn}

events_push : (cs : List Call) (bs : List Answer) (c : Call) (a : Answer) → length cs ≡ length bs → events (cs ++ c ∷ []) (bs ++ a ∷ []) ≡ events cs bs ++ event c a ∷ []
events_push [] [] c a e = refl
events_push [] (x ∷ bs) c a e = absurd (omega (arith, e))
events_push (y ∷ cs) [] c a e = absurd (omega (arith, e))
events_push (y ∷ cs) (x ∷ bs) c a e = ap (λ z. event y x ∷ z) (events_push cs bs c a (omega (arith, e)))

-- the next call of a list, with its answer
pub history_more : (cs : List Call) (i : ℕ) (d : Call) (bs : List Answer) (a : Answer) → i < length cs → length (take i cs) ≡ length bs → history (take (i + 1) cs) (bs ++ a ∷ []) ≡ event (get_or cs i d) a ∷ history (take i cs) bs
history_more cs i d bs a lt e =
    ap (λ x. history x (bs ++ a ∷ [])) (take_more cs i d lt)
    ∙ ap reverse (events_push (take i cs) bs (get_or cs i d) a e)
    ∙ reverse-append (events (take i cs) bs) (event (get_or cs i d) a ∷ [])

-- what holds at every point so far, and at the next, holds at every point so far then
pub points_more : (P : List Event → Report → Type 0) (cs : List Call) (bs : List Answer) (a : Answer) (rs : List Report) (r : Report) (i : ℕ) → length bs ≡ i → length rs ≡ i + 1 →
    ((k : ℕ) → k ≤ i → P (history (take k cs) (take k bs)) (report_at rs k)) → P (history (take (i + 1) cs) (bs ++ a ∷ [])) r →
    (k : ℕ) → k ≤ i + 1 → P (history (take k cs) (take k (bs ++ a ∷ []))) (report_at (rs ++ r ∷ []) k)
points_more P cs bs a rs r i many more so_far here k le = by (leb k i) refl
  where
    by : (b : Bool) → leb k i ≡ b → P (history (take k cs) (take k (bs ++ a ∷ []))) (report_at (rs ++ r ∷ []) k)
    by true e =
        let low : k ≤ i = leb-true k i e in
        let front : take k (bs ++ a ∷ []) ≡ take k bs = take-append-le k bs (a ∷ []) (omega (arith, many)) in
        let there : report_at (rs ++ r ∷ []) k ≡ report_at rs k = get_or_append_left rs (r ∷ []) _ k (omega (arith, more)) in
        subst (λ x. P (history (take k cs) x) (report_at (rs ++ r ∷ []) k)) (sym front) (subst (P (history (take k cs) (take k bs))) (sym there) (so_far k low))
    by false e =
        let high = leb-false k i e in
        let last : i + 1 ≡ k = omega arith in
        let whole : take (i + 1) (bs ++ a ∷ []) ≡ bs ++ a ∷ [] = take_all (i + 1) (bs ++ a ∷ []) (omega (arith, length-append bs (a ∷ []), many)) in
        let there : report_at (rs ++ r ∷ []) (i + 1) ≡ r = get_or_push rs r _ (i + 1) more in
        subst (λ n. P (history (take n cs) (take n (bs ++ a ∷ []))) (report_at (rs ++ r ∷ []) n)) last
        (subst (λ x. P (history (take (i + 1) cs) x) (report_at (rs ++ r ∷ []) (i + 1))) (sym whole) (subst (P (history (take (i + 1) cs) (bs ++ a ∷ []))) (sym there) here))

-- the first point
pub points_first : (P : List Event → Report → Type 0) (cs : List Call) (bs : List Answer) (rs : List Report) (r : Report) → rs ≡ r ∷ [] → P [] r → (k : ℕ) → k ≤ 0 → P (history (take k cs) (take k bs)) (report_at rs k)
points_first P cs bs rs r is here k le =
    let none : 0 ≡ k = omega arith in
    subst (λ n. P (history (take n cs) (take n bs)) (report_at rs n)) none (subst (λ x. P [] (report_at x 0)) (sym is) here)

pub law_of : {H A : Type 0} (next : H → H) (f : Face) (reading : H → ℕ) → ((x : H) → reading x < 2 ^ 64) → ((x : H) → reading (next x) ≡ moved (reading x) 1) →
    (added t own : ℕ) (first : H) (n : Node H A) (h : List Event) (r : Report) → Keeps next f added t own first n h → r ≡ report_of n.desk (reading n.hash) →
    Law f added t own (reading first) h r
law_of next f reading low one added t own first n h r k is =
    let b = k.agrees.books in
    let q : report_of k.model.desk (reading n.hash) ≡ r = ap (λ (d : Desk). report_of d (reading n.hash)) (sym k.stands.desk) ∙ sym is in
    subst (Law f added t own (reading first) h) q
    (record {
      answered = k.agrees.answered;
      taken_rise = b.took.rising;
      sealed_rise = b.sealed.rising;
      taken = b.taken;
      carried = b.carried;
      declined = b.declined;
      orders = k.stands.sound.orders ∙ ap (λ x. k.model.desk.carried + k.model.desk.declined + in_hand x) (sym b.held);
      level = b.level;
      reading = ap reading k.meter ∙ reads next reading low one first (cost f h);
    })

-- a new node and no history
pub keeps_new : {H A : Type 0} (next : H → H) (f : Face) (added t own : ℕ) (first : H) (n : Node H A) → Stands next f n (new f added t own) → n.hash ≡ first → Keeps next f added t own first n []
keeps_new next f added t own first n st same =
    record {
      model = new f added t own;
      stands = st;
      agrees = record {
        keys = record { many = refl; is = λ s. sym (nothing (Option (List ℕ)) 8 s None) };
        lanes = record {
          many = refl;
          each = λ l o is. let z : ◌≡◌ {A = ℕ} 0 1 = cc (nothing (Option Opened) 4 l None) in absurd (omega (arith, z));
          fed = λ l. ap fed_of (sym (nothing (Option Opened) 4 l None));
        };
        books = record {
          took = record { many = refl; below = λ s. tt; rising = λ s. tt; newest = λ s. sym (nothing ℕ 8 s 0) };
          sealed = record { many = refl; below = λ s. tt; rising = λ s. tt; newest = λ s. sym (nothing ℕ 8 s 0) };
          taken = refl;
          carried = refl;
          declined = refl;
          held = refl;
          level = refl;
        };
        answered = tt;
        size = refl;
        address = refl;
        refusal = refl;
      };
      meter = same;
    }
  where
    nothing : (X : Type 0) (n i : ℕ) (x : X) → get_or (replicate n x) i x ≡ x
    nothing X zero i x = refl
    nothing X (suc n) zero x = refl
    nothing X (suc n) (suc i) x = nothing X n i x

-- After i calls of a list, each with its answer: the node keeps its history.
pub record Ran-so-far {H A : Type 0} (next : H → H) (f : Face) (added t own : ℕ) (first : H) (n : Node H A) (cs : List Call) (i : ℕ) (bs : List Answer) : Type 0 where
  pub many : length bs ≡ i
  pub keeps : Keeps next f added t own first n (history (take i cs) bs)

module _ {H A : Type 0} (next : H → H) (f : Face) (added t own : ℕ) (first : H) (cs : List Call) where
  pub ran_none : (n : Node H A) (bs : List Answer) → Stands next f n (new f added t own) → n.hash ≡ first → bs ≡ [] → Ran-so-far next f added t own first n cs 0 bs
  ran_none n bs st same none = subst (Ran-so-far next f added t own first n cs 0) (sym none) (record { many = refl; keeps = keeps_new next f added t own first n st same })

  pub ran_more : (n n' : Node H A) (i : ℕ) (d : Call) (bs bs' : List Answer) (a : Answer) → i < length cs → GoesOn next f n n' (get_or cs i d) a → bs' ≡ bs ++ a ∷ [] →
      Ran-so-far next f added t own first n cs i bs → Ran-so-far next f added t own first n' cs (i + 1) bs'
  ran_more n n' i d bs bs' a lt goes more so =
      let past = history_more cs i d bs a lt (length-take-le i cs (omega (arith, lt)) ∙ sym so.many) in
      subst (Ran-so-far next f added t own first n' cs (i + 1)) (sym more)
      (record {
        many = omega (arith, length-append bs (a ∷ []), so.many);
        keeps = subst (Keeps next f added t own first n') (sym past) (goes added t own first (history (take i cs) bs) so.keeps);
      })

  pub ran_all : (reading : H → ℕ) → ((x : H) → reading x < 2 ^ 64) → ((x : H) → reading (next x) ≡ moved (reading x) 1) →
      (n : Node H A) (i : ℕ) (bs : List Answer) (h : H) (r : Report) → length cs ≤ i → i ≤ length cs → first ≡ h → r ≡ report_of n.desk (reading n.hash) → Ran-so-far next f added t own first n cs i bs → Ran f added t own (reading h) cs bs r
  ran_all reading low one n i bs h r le ge same is so =
      record {
        answered = omega (arith, so.many, le, ge);
        law =
            subst (λ x. Law f added t own (reading x) (history cs bs) r) same
            (subst (λ x. Law f added t own (reading first) (history x bs) r) (take_all i cs le) (law_of next f reading low one added t own first n (history (take i cs) bs) r so.keeps is));
      }

-- After i calls of a list, each with its step: the node keeps its history, and the law holds at each point so far.
pub record Logged-so-far {H A : Type 0} (next : H → H) (f : Face) (reading : H → ℕ) (added t own : ℕ) (first : H) (n : Node H A) (cs : List Call) (i : ℕ) (start : Report) (steps : List Step) : Type 0 where
  pub ran : Ran-so-far next f added t own first n cs i (answers_in steps)
  pub law : (k : ℕ) → k ≤ i → Law f added t own (reading first) (history (take k cs) (take k (answers_in steps))) (report_at (start ∷ reports_in steps) k)

module _ {H A : Type 0} (next : H → H) (f : Face) (reading : H → ℕ) (low : (x : H) → reading x < 2 ^ 64) (one : (x : H) → reading (next x) ≡ moved (reading x) 1) (added t own : ℕ) (first : H) (cs : List Call) (start : Report) where
  pub logged_none : (n : Node H A) (steps : List Step) → Stands next f n (new f added t own) → n.hash ≡ first → start ≡ report_of n.desk (reading n.hash) → steps ≡ [] → Logged-so-far next f reading added t own first n cs 0 start steps
  logged_none n steps st same is none =
      let ran = ran_none next f added t own first cs n [] st same refl in
      subst (Logged-so-far next f reading added t own first n cs 0 start) (sym none)
      (record {
        ran = ran;
        law = points_first (Law f added t own (reading first)) cs [] (start ∷ []) start refl (law_of next f reading low one added t own first n [] start ran.keeps is);
      })

  pub logged_more : (n n' : Node H A) (i : ℕ) (d : Call) (steps steps' : List Step) (s : Step) → i < length cs → GoesOn next f n n' (get_or cs i d) s.answer → s.report ≡ report_of n'.desk (reading n'.hash) → steps' ≡ steps ++ s ∷ [] →
      Logged-so-far next f reading added t own first n cs i start steps → Logged-so-far next f reading added t own first n' cs (i + 1) start steps'
  logged_more n n' i d steps steps' s lt goes is more so =
      let bs = answers_in steps in
      let rs = start ∷ reports_in steps in
      let answers = map_push (λ (x : Step). x.answer) steps s in
      let reports = map_push (λ (x : Step). x.report) steps s in
      let ran = ran_more next f added t own first cs n n' i d bs (bs ++ s.answer ∷ []) s.answer lt goes refl so.ran in
      let told = law_of next f reading low one added t own first n' (history (take (i + 1) cs) (bs ++ s.answer ∷ [])) s.report ran.keeps is in
      let points = points_more (Law f added t own (reading first)) cs bs s.answer rs s.report i so.ran.many (omega (arith, length-map steps (λ (x : Step). x.answer), length-map steps (λ (x : Step). x.report), so.ran.many)) so.law told in
      subst (Logged-so-far next f reading added t own first n' cs (i + 1) start) (sym more)
      (record {
        ran = subst (Ran-so-far next f added t own first n' cs (i + 1)) (sym answers) ran;
        law = λ j le.
            subst (λ x. Law f added t own (reading first) (history (take j cs) (take j x)) (report_at (start ∷ reports_in (steps ++ s ∷ [])) j)) (sym answers)
            (subst (λ x. Law f added t own (reading first) (history (take j cs) (take j (bs ++ s.answer ∷ []))) (report_at (start ∷ x) j)) (sym reports) (points j le));
      })

  pub logged_all : (n : Node H A) (i : ℕ) (steps : List Step) (h : H) → length cs ≤ i → i ≤ length cs → first ≡ h → Logged-so-far next f reading added t own first n cs i start steps → Logged f added t own (reading h) cs (answers_in steps) (start ∷ reports_in steps)
  logged_all n i steps h le ge same so =
      let bs = answers_in steps in
      let rs = start ∷ reports_in steps in
      let long : length bs ≡ length cs = so.ran.many ∙ omega (arith, le, ge) in
      let law : (k : ℕ) → k ≤ length cs → Law f added t own (reading h) (history (take k cs) (take k bs)) (report_at rs k) =
      λ k lt. subst (λ x. Law f added t own (reading x) (history (take k cs) (take k bs)) (report_at rs k)) same (so.law k (omega (arith, le, lt))) in
      record {
        ran = record {
          answered = long;
          law =
              subst (λ x. Law f added t own (reading h) (history x bs) (report_at rs (length bs))) (take_all (length bs) cs (omega (arith, long)))
              (subst (λ x. Law f added t own (reading h) (history (take (length bs) cs) x) (report_at rs (length bs))) (take_all (length bs) bs (omega arith)) (law (length bs) (omega (arith, long))));
        };
        reported = omega (arith, length-map steps (λ (x : Step). x.answer), length-map steps (λ (x : Step). x.report), long);
        law = law;
      }
