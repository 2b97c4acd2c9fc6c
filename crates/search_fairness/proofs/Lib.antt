mod Never
