-- Where the current alternates, refusals 8 and 9 are the tests of the code, and what they leave fits the arrangement.
use Rattle.std.proofs.Common.{List, Bool, true, false, ap, arith, ltb, ltb-false, subst, sym, ℕ, ◌&&◌, ◌||◌, ◌*◌, ◌∙◌, ◌≡◌, ◌≤◌}
use Rattle.bools.proofs.Laws.Tests.{neither, not_both}
use Rattle.formulas.specs.Skin.{skin_ratio}
use Rattle.formulas.specs.Refusals.{skin_refused, eddy_refused}
use Rattle.fields.specs.Fields as Field
use Rattle.rating.specs.Values.{R', Rs, B, zs, zp}
use Rattle.rating.specs.Arrangements.{own}
use Rattle.rating.specs.FieldRefusals.{field_refusal}
use Rattle.rating.specs.Current.{R_of, Wd_of}
use Rattle.rating.specs.Rate.{loaded, judged, rate_of}
use Rattle.rating.specs.Laws.Fit.{Fit}
use Rattle.rating.proofs.Judged.{judged_next}
use Rattle.rating.proofs.Laws.Ranges.{B_range}
use Rattle.rating.proofs.case.SoundCase.alternating.Goals as goal
use Rattle.rating.proofs.case.SoundCase.alternating.Goals.{After-skin_ratio-zp, After-sheath_resistance-rs, Else-self-rs}

-- z with k, which is ks or kp
z_is :
    (x : List ℕ) {k k' z : ℕ} → k ≡ k' → z ≡ skin_ratio (Field.frequency x) k (R' x) → z ≡ skin_ratio (Field.frequency x) k' (R' x)
z_is x k_is is = is ∙ ap (λ k. skin_ratio (Field.frequency x) k (R' x)) k_is

-- the two tests of the code are those of the definition

skin_is :
    (x : List ℕ) {z z' : ℕ} → z ≡ zs x → z' ≡ zp x →
    skin_refused (zs x) (zp x) ≡ ltb 7840000000000 z || ltb 7840000000000 z'
unfolding skin_refused
skin_is x with_ks with_kp = λ i. ltb 7840000000000 (sym with_ks i) || ltb 7840000000000 (sym with_kp i)

eddies_is :
    (x : List ℕ) {tried : Bool} {b rs : ℕ} → tried ≡ (own x).eddies → b ≡ B x → rs ≡ Rs x →
    (own x).eddies && eddy_refused (B x) (Rs x) ≡ tried && ltb rs (5 * b)
unfolding eddy_refused
eddies_is x tried_is b_is rs_is = λ i. sym tried_is i && ltb (sym rs_is i) (5 * sym b_is i)

skin :
    (c : After-skin_ratio-zp) →
    skin_refused (zs c.args.self.x) (zp c.args.self.x)
    ≡ ltb 7840000000000 c.skin_ratio-zs.result || ltb 7840000000000 c.skin_ratio-zp.result
unfolding zs zp
skin c =
    let x = c.args.self.x in
    skin_is x (z_is x c.ks.ensures c.skin_ratio-zs.ensures) (z_is x c.kp.ensures c.skin_ratio-zp.ensures)

eddy :
    (c : After-sheath_resistance-rs) →
    let x = c.args.self.x in
    (own x).eddies && eddy_refused (B x) (Rs x) ≡ c.args.self.eddies && ltb c.sheath_resistance-rs.result (5 * c.reactance-b.result)
eddy c = eddies_is c.args.self.x c.args.self.eddies_is c.reactance-b.ensures c.sheath_resistance-rs.ensures

pub returns-then-zs-zp-clause-refused : goal.returns-then-zs-zp-clause-refused
unfolding judged
returns-then-zs-zp-clause-refused c =
    let skin = skin (goal.at.returns-then-zs-zp-clause-refused c).After-skin_ratio-zp in
    judged_next c.args.self.x c.args.self.none_given ∙ simp (c.requires.alternates, skin ∙ c.if-zs-zp.true)

pub overflow_mul-b : goal.overflow_mul-b
overflow_mul-b c = omega (arith, c.reactance-b.ensures, B_range (c.args.self.sound.alternating c.requires.alternates))

pub returns-then-self-rs-clause-refused : goal.returns-then-self-rs-clause-refused
unfolding judged
returns-then-self-rs-clause-refused c =
    let skin = skin (goal.at.returns-then-self-rs-clause-refused c).After-skin_ratio-zp in
    let eddy = eddy (goal.at.returns-then-self-rs-clause-refused c).After-sheath_resistance-rs in
    judged_next c.args.self.x c.args.self.none_given ∙ simp (c.requires.alternates, skin ∙ c.if-zs-zp.false, eddy ∙ c.if-self-rs.true)

-- what is left once neither 8 nor 9 is given

answer :
    (x : List ℕ) → field_refusal x ≡ 0 → (own x).alternates ≡ true → skin_refused (zs x) (zp x) ≡ false →
    (own x).eddies && eddy_refused (B x) (Rs x) ≡ false → rate_of x ≡ loaded x
unfolding judged
answer x none_given alternates skin eddy = judged_next x none_given ∙ simp (alternates, skin, eddy)

fit : (c : Else-self-rs) → Fit (own c.args.self.x) c.args.self.x
unfolding zs zp
fit c =
    let x = c.args.self.x in
    let fine = c.args.self.sound in
    let small = neither _ _ c.if-zs-zp.false in
    record {
      sound = fine;
      known = fine.known;
      limits = fine.limits;
      geometry = fine.geometry;
      alternating = fine.alternating;
      skin =
          λ alternates. subst (λ z. z ≤ 7840000000000) (z_is x c.ks.ensures c.skin_ratio-zs.ensures) (ltb-false _ _ small.0);
      proximity =
          λ alternates. subst (λ z. z ≤ 7840000000000) (z_is x c.kp.ensures c.skin_ratio-zp.ensures) (ltb-false _ _ small.1);
      eddies =
          λ tried.
          let apart : 5 * c.reactance-b.result ≤ c.sheath_resistance-rs.result =
          ltb-false _ _ (not_both _ _ c.if-self-rs.false (c.args.self.eddies_is ∙ tried))
          in
          omega (arith, apart, c.sheath_resistance-rs.ensures, c.reactance-b.ensures);
    }

pub conduction-h-requires : goal.conduction-h-requires
unfolding zs zp
conduction-h-requires c =
    record {
      fit = fit (goal.at.conduction-h-requires c).Else-self-rs;
      alternates = c.requires.alternates;
      rc_is = c.requires.rc_is;
      skin_is = z_is c.args.self.x c.ks.ensures c.skin_ratio-zs.ensures;
      proximity_is = z_is c.args.self.x c.kp.ensures c.skin_ratio-zp.ensures;
    }

pub invariant_of-result : goal.invariant_of-result
unfolding R_of Wd_of
invariant_of-result c =
    let ac = c.requires.alternates in
    let skin = skin (goal.at.invariant_of-result c).After-skin_ratio-zp in
    let eddy = eddy (goal.at.invariant_of-result c).After-sheath_resistance-rs in
    let h = c.conduction-h.ensures in
    record {
      fit = fit (goal.at.invariant_of-result c).Else-self-rs;
      answer = answer c.args.self.x c.args.self.none_given ac (skin ∙ c.if-zs-zp.false) (eddy ∙ c.if-self-rs.false);
      rc_is = c.requires.rc_is;
      b_is = c.reactance-b.ensures ∙ simp ac;
      rs_is = c.sheath_resistance-rs.ensures ∙ simp ac;
      ys_is = h.ys_is ∙ simp ac;
      yp_is = h.yp_is ∙ simp ac;
      r_is = h.r_is ∙ simp ac;
      wd_is = c.dielectric_loss-wd.ensures ∙ simp ac;
    }
