mod OnBench
