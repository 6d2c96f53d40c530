use Rattle.dwc_extents.proofs.NativeRangeLaws.{added-native, symbol-begins, symbol-ends}
use Rattle.dwc_extents.proofs.ranges.add_native.Goals as goal

pub returns-in-Constant-end : goal.returns-in-Constant-end
returns-in-Constant-end c =
    let fs = c.args.transform.now in
    added-native fs c.push_translated.result (c.translations_are_said.ensures fs c.requires.functions) c.in-Constant.begin c.in-Constant-end.end c.args.begin c.args.end c.args.ranges.now.items c.push_translated.new.ranges.items c.in-Constant.is c.in-Constant-end.is
    c.push_translated.ensures

pub returns-in-Symbol-end : goal.returns-in-Symbol-end
returns-in-Symbol-end c = symbol-ends c.args.transform.now c.in-Constant.begin c.in-Symbol-end.symbol c.in-Symbol-end.addend c.args.begin c.args.end c.in-Constant.is c.in-Symbol-end.is c.args.ranges.now.items

pub returns-in-Symbol : goal.returns-in-Symbol
returns-in-Symbol c = symbol-begins c.args.transform.now c.in-Symbol.symbol c.in-Symbol.addend c.args.begin c.args.end c.in-Symbol.is c.args.ranges.now.items
