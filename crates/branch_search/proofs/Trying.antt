-- Trying the values of a position's variable: each is covered, or its bound is still to be looked at.
use Rattle.std.proofs.Common.{◌≡◌, ℕ, zero, suc, ◌+◌, ◌<◌, ◌≤◌, ltb, ◌⊎◌, List, [], ◌∷◌, length, get_or, set, sym, ◌∙◌}
use Rattle.std.proofs.Common.{subst, inl, inr, ⊎_elim, arith, length-set, get_or-set_other, lt-ltb}
use Rattle.model.specs.Basics.{when}
use Rattle.model.specs.Limits.{max_domain}
use Rattle.model.specs.Problems.{Problem}
use Rattle.model.specs.Frontiers.{Point}
use Rattle.groups.specs.declared.Task as DT
use Rattle.model.specs.Archive.{Archived, Follows}
use Rattle.model.proofs.Numbers.{equal_or}
use Rattle.model.proofs.Frontier.{reached_width}
use Rattle.model.proofs.Archive.{archived_wide, covered_follows, follows_refl, follows_trans}
use Rattle.branch_directions.specs.Directions.{lead_weights, lead_at}
use Rattle.branch_directions.specs.declared.Directions as DD
use Rattle.layout.specs.Places.{order_in}
use Rattle.branch_buckets.specs.Bounds.{Agree, bound_at}
use Rattle.branch_buckets.proofs.Bounds.{bound_local, bound_below}
use Rattle.branch_pruning.specs.declared.Progress as DP
use Rattle.branch_search.specs.declared.Node as DN
use Rattle.branch_search.specs.States.{no_limit, plan_in, archive_in, problem_of}
use Rattle.branch_search.specs.States.{Running, Partial, Completes, Still, AllCovered, Standing, OpenedFrom}
use Rattle.branch_search.specs.States.{Opened, reaching, spent, Meeting}
use Rattle.branch_search.proofs.Nodes.{with_next, Extends}
use Rattle.branch_search.proofs.Meeting.{meeting_refl, meeting_trans}
use Rattle.branch_search.proofs.Memory.{still_refl, still_trans, problem_still, ready_still}
use Rattle.branch_directions.proofs.Widths.{lead_inside}
use Rattle.branch_search.proofs.Leaving.{lead_exact}
use Rattle.branch_search.proofs.Opening.{with_choice, value_inside, value_agree}

-- how many values were not tried: their leads are below the greatest number
unfoldable pub untried : List ℕ → ℕ
untried [] = 0
untried (x ∷ xs) = when (ltb x no_limit) 1 + untried xs

pub tried_fewer : (xs : List ℕ) (a : ℕ) → a < length xs → get_or xs a 0 < no_limit
    → untried (set xs a no_limit) < untried xs
unfolding untried
tried_fewer [] a l h = absurd (omega arith)
tried_fewer (x ∷ xs) zero l h = rw (lt-ltb x no_limit h) (omega arith)
tried_fewer (x ∷ xs) (suc a) l h = omega (arith, tried_fewer xs a (omega arith) h)

-- what was covered stays so
follows_covers : (q : Problem) (d : DD.Directions) (among : List ℕ → Type 0) {archive : List Point} {limit : ℕ}
    {archive' : List Point} {limit' : ℕ}
    → Archived q (lead_weights d) archive limit → Archived q (lead_weights d) archive' limit'
    → Follows (lead_weights d) archive limit archive' limit' → AllCovered q d among archive limit
    → AllCovered q d among archive' limit'
follows_covers q d among h h' f c y m g =
    covered_follows q.objectives f (archived_wide h) (archived_wide h') y (reached_width q y m) (c y m g)

-- the completions with the value a are covered
abbrev ValueCovered :
    (d : DD.Directions) (task : DT.Task) (ds s work : List ℕ) (node : DN.Node) (a : ℕ) (work' : List ℕ)
    (run' : DP.Progress) → Type 0
ValueCovered d task ds s work node a work' run' =
    AllCovered (problem_of d task ds s work) d
    (Agree (plan_in work) (node.depth + 1) (with_next (plan_in work) (length ds) node a))
    (archive_in d (length ds) work' run') run'.limit

-- the leading sum of the bound with the value a
abbrev pub lead_with : (d : DD.Directions) (task : DT.Task) (ds s plan : List ℕ) (node : DN.Node) (a : ℕ) → ℕ
lead_with d task ds s plan node a =
    bound_at d ds s plan task.records (node.depth + 1) (with_next plan (length ds) node a) (lead_at d)

-- so far: the values whose leads are the bounds' are left
pub record Trying
    (d : DD.Directions) (task : DT.Task) (ds s work : List ℕ) (run : DP.Progress) (node : DN.Node)
    (work' : List ℕ) (run' : DP.Progress) (leads : List ℕ) : Type 0 where
  pub still : Still task work work'
  pub running : Running (problem_of d task ds s work) d task (length ds) work' run'
  pub follows :
      Follows (lead_weights d) (archive_in d (length ds) work run) run.limit
      (archive_in d (length ds) work' run') run'.limit
  pub fewer : run'.left ≤ run.left
  pub meeting : Meeting work run work' run'
  pub long : length leads ≡ max_domain
  pub each :
      1 ≤ run'.left → (a : ℕ) → a < get_or ds (order_in (plan_in work) node.depth) 0 →
      ValueCovered d task ds s work node a work' run' ⊎ (get_or leads a 0 ≡ lead_with d task ds s (plan_in work) node a)

module _
    {d : DD.Directions} {task : DT.Task} {ds s work : List ℕ} {run : DP.Progress} {node : DN.Node}
    (h : Standing d task ds s work run node) where
  pub spent_standing : {less : DP.Progress} → less ≡ spent run → Standing d task ds s work less node
  spent_standing e =
      subst (λ (r : DP.Progress). Standing d task ds s work r node) (sym e)
      (record {
        ready = h.ready;
        running =
            record {
              few = h.running.few;
              archived = h.running.archived;
              distinct = h.running.distinct;
              measured = h.running.measured;
              zoned = h.running.zoned;
            };
        partial = h.partial;
      })

  -- and how far a pass came changes nothing
  pub spent_opened :
      {less : DP.Progress} {work' : List ℕ} {run' run'' : DP.Progress} → less ≡ spent run →
      run'' ≡ reaching run' run''.done → OpenedFrom d task ds s node work less work' run' →
      OpenedFrom d task ds s node work run work' run''
  spent_opened {less} {work'} {run'} e same opened =
      let o : OpenedFrom d task ds s node work (spent run) work' run' =
      subst (λ (r : DP.Progress). OpenedFrom d task ds s node work r work' run') e opened in
      subst (OpenedFrom d task ds s node work run work') (sym same)
      (record {
        still = o.still;
        running =
            record {
              few = o.running.few;
              archived = o.running.archived;
              distinct = o.running.distinct;
              measured = o.running.measured;
              zoned = o.running.zoned;
            };
        follows = o.follows;
        fewer = omega (arith, o.fewer);
        meeting = record { fewer = o.meeting.fewer; idle = o.meeting.idle };
        covered = o.covered;
      })

module _
    {d : DD.Directions} {task : DT.Task} {ds s work : List ℕ} {run : DP.Progress} {node : DN.Node}
    (h : Standing d task ds s work run node) where
  abbrev problem : Problem
  problem = problem_of d task ds s work

  abbrev plan : List ℕ
  plan = plan_in work

  abbrev variable : ℕ
  variable = order_in plan node.depth

  pub trying_start :
      (leads : List ℕ) → length leads ≡ max_domain →
      ((a : ℕ) → a < get_or ds (order_in (plan_in work) node.depth) 0 →
      get_or leads a 0 ≡ lead_with d task ds s (plan_in work) node a) →
      Trying d task ds s work run node work run leads
  trying_start leads long is =
      record {
        still = still_refl task work;
        running = h.running;
        follows = follows_refl (lead_weights d) (archive_in d (length ds) work run) run.limit;
        fewer = omega arith;
        meeting = meeting_refl work run;
        long = long;
        each = λ some a l. inr (is a l);
      }

  module _
      {work' : List ℕ} {run' : DP.Progress} {leads : List ℕ}
      (t : Trying d task ds s work run node work' run' leads) where
    -- what trying a value asks
    pub trying_standing :
        (a : ℕ) (b : List ℕ) (next : DN.Node) → Extends (plan_in work) (length ds) node a b next →
        Partial d task.records ds s (plan_in work) (node.depth + 1)
        (with_next (plan_in work) (length ds) node a) b →
        Standing d task ds s work' run' next
    trying_standing a b next e p =
        record {
          ready = ready_still t.still d ds s h.ready;
          running =
              subst (λ (q : Problem). Running q d task (length ds) work' run')
              (sym (problem_still t.still d ds s)) t.running;
          partial = rw (t.still.plan, e.deeper, e.chosen, e.bounded) p;
        }

    -- and what it leaves
    pub trying_next :
        (a : ℕ) (b : List ℕ) (next : DN.Node) → Extends (plan_in work) (length ds) node a b next →
        (work'' : List ℕ) (run'' : DP.Progress) → OpenedFrom d task ds s next work' run' work'' run'' →
        Trying d task ds s work run node work'' run'' (set leads a no_limit)
    trying_next a b next e work'' run'' o =
        record {
          still = still_trans t.still opened.still;
          running = opened.running;
          follows =
              follows_trans d.objectives (archived_wide h.running.archived)
              (archived_wide t.running.archived) (archived_wide opened.running.archived)
              t.follows opened.follows;
          fewer = omega (arith, t.fewer, opened.fewer);
          meeting = meeting_trans t.meeting opened.meeting;
          long = length-set leads a no_limit ∙ t.long;
          each = λ some c l.
              let before : 1 ≤ run'.left = omega (arith, opened.fewer) in
              ⊎_elim (λ (i : c ≡ a). inl (rw i (covered some)))
              (λ (n : c ≡ a → ⊥). other c n (t.each before c l)) (equal_or c a);
        }
      where
        opened : Opened problem d task (length ds) plan next work' run' work'' run''
        opened =
            subst (λ (l : List ℕ). Opened problem d task (length ds) l next work' run' work'' run'') t.still.plan
            (subst (λ (q : Problem). Opened q d task (length ds) (plan_in work') next work' run' work'' run'')
            (problem_still t.still d ds s) o)

        covered : 1 ≤ run''.left → ValueCovered d task ds s work node a work'' run''
        covered some = rw (e.deeper, e.chosen) at (opened.covered some)

        other :
            (c : ℕ) → (c ≡ a → ⊥) →
            ValueCovered d task ds s work node c work' run' ⊎ (get_or leads c 0 ≡ lead_with d task ds s plan node c) →
            ValueCovered d task ds s work node c work'' run''
            ⊎ (get_or (set leads a no_limit) c 0 ≡ lead_with d task ds s plan node c)
        other c n (inl f) =
            inl
            (follows_covers problem d (Agree plan (node.depth + 1) (with_next plan (length ds) node c))
            t.running.archived opened.running.archived opened.follows f)
        other c n (inr is) = inr (get_or-set_other leads a c no_limit 0 n ∙ is)

    -- the least lead that is left is not below the limit: every completion is covered, or the pass is given up
    pub trying_end :
        node.depth < length ds → (a : ℕ) →
        ((b : ℕ) → b < get_or ds (order_in (plan_in work) node.depth) 0 → get_or leads a 0 ≤ get_or leads b 0) →
        run'.limit ≤ get_or leads a 0 → OpenedFrom d task ds s node work run work' run'
    trying_end inside a least late =
        record {
          still = t.still;
          running = t.running;
          follows = t.follows;
          fewer = t.fewer;
          meeting = t.meeting;
          covered = covers;
        }
      where
        covers :
            1 ≤ run'.left →
            AllCovered problem d (Completes plan (length ds) node) (archive_in d (length ds) work' run') run'.limit
        covers some y m g =
            let sound = h.ready.sound in
            let b = get_or y.choice variable 0 in
            let x = with_next plan (length ds) node b in
            let l : b < get_or ds variable 0 = value_inside sound h.partial inside y.choice m.complete in
            let agree = value_agree sound h.partial inside y.choice m.complete g in
            ⊎_elim
            (λ c. c y m agree)
            (λ (e : get_or leads b 0 ≡ lead_with d task ds s plan node b).
            let lead = lead_inside d h.ready.planned.sensible in
            let choice = with_choice sound h.partial inside b l in
            let k = node.depth + 1 in
            let short : k ≤ length ds = omega arith in
            let local = bound_local sound.tested k short x y.choice choice m.complete agree (lead_at d) in
            let below = bound_below sound y.choice m.complete (lead_at d) lead k short in
            inl (omega (arith, e, least b l, local, below, lead_exact h y m)))
            (t.each some b l)
