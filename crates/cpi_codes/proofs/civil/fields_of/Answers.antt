use Rattle.std.proofs.Common.{arith}
use Rattle.std.proofs.lemmas.Slice.Eq.{text_from_reads}
use Rattle.cpi_codes.proofs.civil.fields_of.Goals as goal

pub returns-clause-found : goal.returns-clause-found
returns-clause-found c =
    let century = c.in_ok-century.ensures.found in
    let of_century = c.in_ok-of_century.ensures.found in
    let month = c.in_ok-month.ensures.found in
    let day = c.in_ok-day.ensures.found in
    let hour = c.in_ok-hour.ensures.found in
    let minute = c.in_ok-minute.ensures.found in (
      (omega arith, month.0, day.0, hour.0, minute.0),
      text_from_reads c.args.text.now _ (omega arith) (
        omega arith,
        (
          omega arith,
          (
            omega arith,
            (
              omega arith,
              (
                omega arith,
                (
                  omega arith,
                  (
                    omega arith,
                    (
                      omega arith,
                      (
                        omega arith,
                        (
                          omega arith,
                          (
                            omega arith,
                            (
                              omega arith,
                              (omega arith, (omega arith, (omega arith, (omega arith, tt)))),
                            ),
                          ),
                        ),
                      ),
                    ),
                  ),
                ),
              ),
            ),
          ),
        ),
      ),
    )
